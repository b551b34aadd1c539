-- The words of the crates below that the clauses of this crate are said in, passed on from one place. Declares nothing.
pub use Rattle.std.specs.List.{list_any}
pub use Rattle.std.specs.Option.{option_map}
pub use Rattle.abel_meaning.specs.Choices.{inverting, is_free, is_free_signal, source_logic_under, source_values_under}
pub use Rattle.abel_meaning.specs.Contributions.{Contribution, Evaluator}
pub use Rattle.abel_meaning.specs.Controls.{cell_stores, control_if_stored, control_of, is_on_pin, shared_control, signal_on}
pub use Rattle.abel_meaning.specs.Designs.{Context, Design, context_of, design_of, name_at}
pub use Rattle.abel_meaning.specs.FormulaBits.{formulas}
pub use Rattle.abel_meaning.specs.Functions.{Function, allows, function_of, is_raw_signal}
pub use Rattle.abel_meaning.specs.NetlistLogic.{enable_of, netlist_logic, netlist_values}
pub use Rattle.abel_meaning.specs.Netlists.{PlainNetlist, Wanted, as_named, function_at, shared_function, wanted_at}
pub use Rattle.abel_meaning.specs.SignalReads.{HasNoSignalLoop, HasNoSignalPath, given_formulas}
pub use Rattle.abel_meaning.specs.Soundness.{IsSound, MayRegister}
pub use Rattle.abel_meaning.specs.SourceLogic.{is_negated, source_logic, source_values}
pub use Rattle.abel_tree.specs.Entries.{ANode, APin, Entry, Kind, follows_q, is_stored}
pub use Rattle.abel_tree.specs.Tree.{AName, AnAssign, Declaration, Equations, ModuleTree, SomePins, Statement}
pub use Rattle.abel_tree.specs.declared.words.Extension.{Extension}
pub use Rattle.abel_tree.specs.declared.words.Sign.{Sign}
pub use Rattle.bit_expr.specs.Formulas.{And, Const, Formula, Not, Or, Read, Xor, formula_value, same_leaf}
pub use Rattle.bit_expr.specs.declared.node.Leaf.{Leaf}
pub use Rattle.pld_base.specs.Bits.{is_on}
pub use Rattle.pld_base.specs.Logic.{Logic}
pub use Rattle.pld_base.specs.Points.{Levels}
pub use Rattle.pld_base.specs.declared.place.Place.{Place}
pub use Rattle.pld_device.specs.Laws.{IsDevice}
pub use Rattle.pld_device.specs.Macrocells.{complement_if, data_complements, data_rows, device_logic, pin_complements}
pub use Rattle.pld_device.specs.Pins.{IsPairOf, cell_on}
pub use Rattle.pld_device.specs.Registers.{is_inverted, says, stores}
pub use Rattle.pld_device.specs.Rows.{columns_of, is_switched_on, pair_values, row_fuses, row_is_true, row_value}
pub use Rattle.pld_device.specs.SampleTable.{sample}
pub use Rattle.pld_device.specs.Table.{IsDataRow, Table, cell_at, registered_at}
pub use Rattle.pld_device.specs.declared.enable.Enable.{Enable}
pub use Rattle.pld_device.specs.declared.enable.Enable.TheVariants.{PinLow, Driven, Released, Row}
pub use Rattle.pld_device.specs.declared.flip.Flip.TheVariants.{AfterRegister, Always}
pub use Rattle.pld_machine.specs.Comparison.{DoesTheSame, IsValued, IsValuedOf, NodeValues}
pub use Rattle.pld_machine.specs.Refines.{RefinesValued, SameValues, Refines}
pub use Rattle.pld_machine.specs.Exchanged.{exchanged, exchanged_at, exchanged_values, in_sense}
pub use Rattle.pld_order.specs.Graphs.{HasNoLoop, has}
