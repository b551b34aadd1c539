-- The words that the proofs of this crate are said in, passed on from one place. Declares nothing.
pub use Rattle.std.proofs.Math.Path.{fun_ext}
pub use Rattle.std.proofs.lemmas.Bool.{cases_Bool, cases_eq, cases_lt, eq-eqb, false_from_ne_true, le-ltb, lt-ltb, ltb-false, ltb-true, or_left, or_right}
pub use Rattle.std.proofs.lemmas.Bool.{true≢false}
pub use Rattle.std.proofs.lemmas.List.{at_drop_more, get_or_past, length-map, length_push}
pub use Rattle.std.proofs.lemmas.List.Folds.{list_any_at}
pub use Rattle.std.proofs.lemmas.Option.{get_or_from_slice_get, slice_get-get_or, slice_get-map, slice_get_within}
pub use Rattle.std.specs.Option.{option_map}
pub use Rattle.abel_meaning.specs.Controls.{cell_stores, cell_stores_for, signal_on}
pub use Rattle.abel_meaning.specs.Designs.{Design, design_of, name_at}
pub use Rattle.abel_meaning.specs.Functions.{Function, allows, allows_plain, function_of, is_raw_signal, value_with_any_0}
pub use Rattle.abel_meaning.specs.NetlistLogic.{drives, enable_of, may_drive, may_store, netlist_logic, netlist_stores, netlist_values, spare_level}
pub use Rattle.abel_meaning.specs.NetlistReads.{is_register_signal, netlist_names, netlist_passes, netlist_reset_reads, netlist_waits, signal_count}
pub use Rattle.abel_meaning.specs.NetlistReads.{signal_leaf}
pub use Rattle.abel_meaning.specs.Netlists.{PlainNetlist, Wanted, as_named, earlier_name, first_with, function_at, no_function, node_at, own_of, own_or_shared}
pub use Rattle.abel_meaning.specs.Netlists.{plain_control, plain_function, plain_netlist, plain_wanted, shared_function, wanted_at}
pub use Rattle.abel_meaning.specs.SignalReads.{function_names, given_formulas, names_if_any}
pub use Rattle.abel_meaning.specs.SoundIds.{IsCellIn}
pub use Rattle.abel_meaning.specs.Soundness.{IsReadable, IsSound}
pub use Rattle.abel_meaning.specs.SourceLogic.{is_negated, logic_with_any_0, next_allows, node_allows, node_signal, node_value_by, pin_allows, q_complements}
pub use Rattle.abel_meaning.specs.SourceLogic.{source_logic, takes_any_as_0}
pub use Rattle.abel_tree.specs.Tree.{ModuleTree}
pub use Rattle.bit_expr.specs.Arena.{IsLeaf}
unfoldable pub use Rattle.bit_expr.specs.Arena.{arena}
pub use Rattle.bit_expr.specs.Formulas.{Formula, formula_value, leaf_value, names}
pub use Rattle.bit_expr.specs.declared.node.Leaf.{Leaf}
pub use Rattle.netlist_laws.proofs.FormulaLeaves.{value_same}
pub use Rattle.netlist_laws.proofs.SignalLeaves.{pin_is_plain, pin_leaf, q_leaf, waits_for_pin}
pub use Rattle.netlist_laws.proofs.Valuing.{cell_named, node_is_plain, node_leaf, node_names, waits_for_node}
pub use Rattle.netlist_laws.proofs.WantedCells.{found, sound_at}
pub use Rattle.netlist_laws.specs.ExchangedNets.{is_free_wanted}
pub use Rattle.netlist_laws.specs.FittedCorrect.{MeansTheSame}
pub use Rattle.netlist_laws.specs.Gathered.{netlist_of, wanted_for}
pub use Rattle.pld_base.proofs.BitLemmas.{is_on-bits, is_on-zero, length-bits, same_levels}
pub use Rattle.pld_base.specs.Bits.{is_on, same_level}
unfoldable pub use Rattle.pld_base.specs.Bits.{bits}
pub use Rattle.pld_base.specs.Logic.{Logic}
pub use Rattle.pld_base.specs.Points.{IsPoint, Levels, levels_of}
pub use Rattle.pld_device.proofs.OwnPins.{own_pins}
pub use Rattle.pld_device.specs.Laws.{IsDevice}
pub use Rattle.pld_device.specs.Macrocells.{complement_if}
pub use Rattle.pld_device.specs.Table.{Table, cell_at, no_cell}
pub use Rattle.pld_device.specs.declared.enable.Enable.TheVariants.{PinLow, Driven, Released, Row}
pub use Rattle.pld_machine.proofs.OneRun.{is_determined}
pub use Rattle.pld_machine.specs.Exchanged.{exchanged, exchanged_at, exchanged_lookups, exchanged_qs, in_sense}
pub use Rattle.pld_machine.specs.Lookups.{Lookups, logic_of, sets_node, sets_pin}
pub use Rattle.pld_machine.specs.Order.{DifferOnlyIn, HasPins, HasSlots, InRange, IsOrdered, ReadsEarlier, ResetsWithoutQ, SameAt}
pub use Rattle.pld_machine.specs.Refines.{HasRunsOf, Refines}
pub use Rattle.pld_machine.specs.Steps.{IsDetermined}
pub use Rattle.pld_machine.specs.declared.logic.Slot.{Slot}
pub use Rattle.pld_order.proofs.Lists.{eqb_same, place_of}
pub use Rattle.source_machine.specs.AnyAs0.{data_with_any_0, level_with_any_0, netlist_with_any_0, next_with_any_0}
pub use Rattle.source_machine.specs.Choices.{AreChosen, chosen, inverts_by, module_as_chosen, netlist_as_chosen}
pub use Rattle.source_machine.specs.Correct.{AllowTheSame, GatheredAs0}
pub use Rattle.source_machine.specs.Finding.{before_of, earlier_of, own_by, own_formula}
pub use Rattle.source_machine.specs.NetlistLookups.{IsSignalOrder, netlist_lookups, signal_slot}
pub use Rattle.source_machine.specs.SignalLinks.{AreFirstLinks, AreSignalLinks, IsLinkOf, waited_leaf}
