-- The words of the crates below that the clauses of this crate are said in, passed on from one place. Declares nothing.
pub use Rattle.abel_meaning.specs.Designs.{design_of}
pub use Rattle.abel_meaning.specs.Kinds.{names_of}
pub use Rattle.abel_meaning.specs.Netlists.{plain_netlist}
pub use Rattle.abel_meaning.specs.SoundIds.{IsSoundNetlist}
pub use Rattle.abel_tree.specs.Entries.{entries_of}
pub use Rattle.abel_tree.specs.SoundNames.{SoundNames}
pub use Rattle.abel_tree.specs.Tree.{ModuleTree}
pub use Rattle.abel_tree.specs.View.{view_module}
pub use Rattle.bit_expr.specs.Arena.{IsLeaf}
unfoldable pub use Rattle.bit_expr.specs.Arena.{arena}
pub use Rattle.netlist_laws.specs.FittedCorrect.{MeansTheSame}
pub use Rattle.netlist_laws.specs.Gathered.{netlist_of}
pub use Rattle.pld_device.specs.SampleTable.{sample}
pub use Rattle.pld_device.specs.Table.{Table}
