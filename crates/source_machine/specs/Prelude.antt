-- The words of the crates below that the clauses of this crate are said in, passed on from one place. Declares nothing.
pub use Rattle.std.specs.Option.{option_map}
pub use Rattle.abel_meaning.specs.Designs.{design_of}
pub use Rattle.abel_meaning.specs.Functions.{value_with_any_0}
pub use Rattle.abel_meaning.specs.NetlistLogic.{drives, netlist_logic, netlist_stores, netlist_values}
pub use Rattle.abel_meaning.specs.NetlistReads.{cell_names, is_register_signal, netlist_names, netlist_waits, signal_count, signal_leaf}
pub use Rattle.abel_meaning.specs.Netlists.{PlainNetlist, Wanted, as_named, first_with, function_at, node_at, own_or_shared, plain_control, plain_function}
pub use Rattle.abel_meaning.specs.Netlists.{plain_netlist, plain_wanted, wanted_at}
pub use Rattle.abel_meaning.specs.SoundIds.{IsCellIn, IsControlIn, IsFunctionIn, IsSoundNetlist}
pub use Rattle.abel_meaning.specs.SourceLogic.{logic_with_any_0, source_logic}
pub use Rattle.abel_tree.specs.Tree.{ModuleTree}
unfoldable pub use Rattle.bit_expr.specs.Arena.{arena}
pub use Rattle.bit_expr.specs.Formulas.{Const, Formula, formula_value}
pub use Rattle.bit_expr.specs.Reading.{AreReads}
pub use Rattle.netlist_laws.specs.FittedCorrect.{MeansTheSame}
pub use Rattle.netlist_laws.specs.Gathered.{netlist_of}
pub use Rattle.pld_base.specs.Bits.{is_on, same_level}
unfoldable pub use Rattle.pld_base.specs.Bits.{bits}
pub use Rattle.pld_base.specs.Logic.{Logic}
pub use Rattle.pld_base.specs.Points.{Levels, levels_of}
pub use Rattle.pld_device.specs.Table.{Table, cell_at}
pub use Rattle.pld_machine.specs.Exchanged.{exchanged, exchanged_at, exchanged_lookups}
pub use Rattle.pld_machine.specs.Lookups.{Lookups, logic_of}
pub use Rattle.pld_machine.specs.Refines.{HasRunsOf, Refines}
