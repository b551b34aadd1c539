-- The words of the crates below that the clauses of this crate are said in, passed on from one place. Declares nothing.
pub use Rattle.std.specs.List.{AllByRecursion, Contains, list_any}
pub use Rattle.abel_meaning.specs.Designs.{Context, Design, design_of, name_at, no_name}
pub use Rattle.abel_meaning.specs.Kinds.{names_of}
pub use Rattle.abel_meaning.specs.Netlists.{plain_control, plain_netlist}
pub use Rattle.abel_meaning.specs.SignalReads.{HasNoSignalLoop, HasNoSignalPath, IsSignalLoop, IsSignalPath, given_formulas}
pub use Rattle.abel_meaning.specs.SoundIds.{IsCellIn, IsSoundNetlist}
pub use Rattle.abel_meaning.specs.Terms.{Before, NoTerm, Read, Set, Term, Terms, known_of, term_of}
pub use Rattle.abel_tree.specs.Entries.{APin, Entry, entries_of, follows_q, is_signal, is_stored}
pub use Rattle.abel_tree.specs.FirstRefusal.{Ranks, place_order}
unfoldable pub use Rattle.abel_tree.specs.FirstRefusal.{is_before}
pub use Rattle.abel_tree.specs.Tree.{ADiagram, ModuleTree, SectionTree, Tree}
unfoldable pub use Rattle.bit_expr.specs.Arena.{arena}
pub use Rattle.bit_expr.specs.Formulas.{Formula}
pub use Rattle.design_checks.specs.declared.fault.DesignFault.{DesignFault}
pub use Rattle.netlist_laws.specs.Takeable.{IsTakeable, MayChoose, NodesAreFew, PinsApart}
pub use Rattle.pld_base.specs.declared.place.Place.{Place}
pub use Rattle.pld_device.specs.Table.{Table}
pub use Rattle.set_expr.specs.Given.{given, view_contribution}
pub use Rattle.set_expr.specs.declared.contributions.Contribution.{Contribution}
