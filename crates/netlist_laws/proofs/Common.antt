-- The words that the proofs of this crate are said in, passed on from one place. Declares nothing.
pub use Rattle.std.proofs.lemmas.Bool.{and_parts, cases_Bool, cases_eq, cases_lt, eq-eqb, eqb-false, eqb-true, le-ltb, lt-ltb, ltb-false, ltb-true, ne_eqb}
pub use Rattle.std.proofs.lemmas.Bool.{not-true, or_cases, or_left, or_right, true≢false}
pub use Rattle.std.proofs.lemmas.List.{get_or-drop, get_or-map, get_or_past, length-map, length-reverse, length-take, reverse-append}
pub use Rattle.std.proofs.lemmas.List.Elements.{All-cons, All-head, All-map, All-nil, All-tail}
pub use Rattle.std.proofs.lemmas.List.Folds.{list_any-append, list_any_at}
pub use Rattle.std.proofs.lemmas.List.Quantifiers.{position-Some}
pub use Rattle.std.proofs.lemmas.Option.{get_or_from_slice_get, same_Some, slice_get-get_or, slice_get_within}
pub use Rattle.std.specs.List.{All, AllPairs, list_any, position_from, range_with_len}
pub use Rattle.std.specs.Option.{option_map}
pub use Rattle.abel_meaning.proofs.FormulasFollow.{formulas_have_values, word_follows}
pub use Rattle.abel_meaning.proofs.FunctionValues.{formula_control, formula_function}
pub use Rattle.abel_meaning.specs.AtPoints.{given_at, truth_at}
pub use Rattle.abel_meaning.specs.Choices.{inverting, is_free, is_free_signal}
pub use Rattle.abel_meaning.specs.Contributions.{Any, Contribution, Evaluator, Gives, Match, One}
pub use Rattle.abel_meaning.specs.Controls.{cell_enabled_by, cell_stores, cell_stores_for, control_by, control_if_stored, control_of, is_control, is_on_pin}
pub use Rattle.abel_meaning.specs.Controls.{is_the_control, must_register, register_control, shared_control, shared_from, signal_on}
pub use Rattle.abel_meaning.specs.Designs.{Context, Design, design_of, name_at, no_name}
pub use Rattle.abel_meaning.specs.Follows.{Follows, seen}
pub use Rattle.abel_meaning.specs.FormulaBits.{binary_word, bits_of, bits_of_all, formulas, kept_bits, make_source, met_by, met_word, operator_word, resized}
pub use Rattle.abel_meaning.specs.Functions.{Function, allows, allows_plain, any_against, both_function, function_of, gives_in, gives_some, is_both, is_data_in}
pub use Rattle.abel_meaning.specs.Functions.{is_data_to, is_free_elsewhere, is_raw_signal, same_gives, single_function, some_holds, value_with_any_0}
pub use Rattle.abel_meaning.specs.NetlistLogic.{drives, enable_of, may_drive, may_store, netlist_logic, netlist_stores, netlist_values, registers_as, spare_level}
pub use Rattle.abel_meaning.specs.NetlistReads.{HasNoNetlistLoop, HasNoNetlistPath, cell_leaf, cell_names, is_register_signal, netlist_names, netlist_passes}
pub use Rattle.abel_meaning.specs.NetlistReads.{netlist_reads, netlist_reset_reads, netlist_waits, signal_count, signal_leaf}
pub use Rattle.abel_meaning.specs.Netlists.{PlainNetlist, Wanted, as_named, earlier_name, first_with, function_at, no_function, node_at, own_of, own_or_shared}
pub use Rattle.abel_meaning.specs.Netlists.{shared_function, wanted_at}
pub use Rattle.abel_meaning.specs.Numbers.{Number, Set, Shape, Single, Value, digits_low_first, either_unknown, meeting, member_width, met, met_unknown}
pub use Rattle.abel_meaning.specs.Numbers.{width_of}
pub use Rattle.abel_meaning.specs.SignalReads.{HasNoSignalLoop, HasNoSignalPath, function_names, given_formulas, is_stored_signal, leaf_by, leaf_of}
pub use Rattle.abel_meaning.specs.SignalReads.{names_if_any, settles, signal_names, signal_reads}
pub use Rattle.abel_meaning.specs.Soundness.{HasNoControls, IsReadable, IsSound, IsSoundCell, IsSoundFormula, IsSoundFree, IsSoundFunction, IsSoundShared}
pub use Rattle.abel_meaning.specs.Soundness.{MayRegister}
pub use Rattle.abel_meaning.specs.SourceLogic.{is_negated, is_node_number, next_allows, node_allows, node_signal, node_value_by, pin_allows, q_complements}
pub use Rattle.abel_meaning.specs.SourceLogic.{source_logic, source_values}
pub use Rattle.abel_meaning.specs.Sources.{LeafRead, Source, Zero, node_source, on_pin, pin_source, register_source, source_by, source_of}
pub use Rattle.abel_tree.specs.Entries.{AConstant, ADeviceName, ANode, APin, Entry, Kind, Words, follows_q, is_stored}
pub use Rattle.abel_tree.specs.Tree.{ADevice, Declaration, DontCareFor, ModuleTree, SomeAttributes, SomeConstants, SomeNodes, SomeOptions, SomePins, Tree}
pub use Rattle.abel_tree.specs.declared.words.Extension.{Extension}
pub use Rattle.bit_expr.specs.Folding.{Made}
unfoldable pub use Rattle.bit_expr.specs.Folding.{make_and, make_not, make_or, make_xor}
pub use Rattle.bit_expr.specs.Formulas.{And, Const, Formula, Not, Or, Read, Xor, differ, formula_value, leaf_value, names, same_leaf}
pub use Rattle.bit_expr.specs.declared.node.Leaf.{Leaf}
pub use Rattle.device_logic.proofs.PairWalks.{row_connected, row_whole}
pub use Rattle.device_logic.proofs.Ranges.{carry_in_range, reset_in}
pub use Rattle.device_logic.proofs.Runs.{any_at, any_none, one_of}
pub use Rattle.device_logic.specs.CellReads.{cell_reads, data_reads, enable_reads, rest_reads, row_reads_cell}
pub use Rattle.pld_base.specs.Bits.{is_on, same_level}
pub use Rattle.pld_base.specs.Points.{IsPoint, Levels}
pub use Rattle.pld_device.proofs.OwnPins.{has_pairs, own_pins, pairs_apart}
pub use Rattle.pld_device.specs.ControlFuses.{control_fuses}
pub use Rattle.pld_device.specs.Given.{enables_never, never_drives}
pub use Rattle.pld_device.specs.Laws.{IsDevice}
pub use Rattle.pld_device.specs.Macrocells.{complement_if, data_complements, data_rows, device_logic, enabled_by, is_enabled, next_q, or_value, pin_complements}
pub use Rattle.pld_device.specs.Macrocells.{pin_level, row_if_any}
pub use Rattle.pld_device.specs.Pins.{cell_on, pin_carried}
pub use Rattle.pld_device.specs.Reads.{connected_pairs, has_whole_pair, is_never_true, row_reads}
pub use Rattle.pld_device.specs.Registers.{is_inverted, says, stores, stores_by}
pub use Rattle.pld_device.specs.Rows.{carried, columns_of, is_switched_on, pair_values, row_fuses, row_is_true, row_value}
pub use Rattle.pld_device.specs.SampleTable.{sample, sample_sound}
pub use Rattle.pld_device.specs.Table.{IsDataRow, Table, cell_at, no_cell, registered_at}
pub use Rattle.pld_device.specs.declared.carry.Carry.{Carry}
pub use Rattle.pld_device.specs.declared.cell.Cell.{Cell}
pub use Rattle.pld_device.specs.declared.enable.Enable.{Enable}
pub use Rattle.pld_device.specs.declared.enable.Enable.TheVariants.{PinLow, Driven, Released, Row}
pub use Rattle.pld_device.specs.declared.flip.Flip.{Flip}
pub use Rattle.pld_device.specs.declared.kinds.Kinds.{Kinds}
pub use Rattle.pld_device.specs.declared.kinds.Kinds.TheVariants.{Combinational, Either, Registered}
pub use Rattle.pld_machine.proofs.ExchangedLogics.{exchanged_refines, values_exchanged}
pub use Rattle.pld_machine.specs.Comparison.{AllowsOne, HasNoDontCare, IsTheValuedOf, SameCells}
pub use Rattle.pld_machine.specs.Exchanged.{exchanged, exchanged_at, exchanged_from, exchanged_values, in_sense}
pub use Rattle.pld_machine.specs.Refines.{Refines}
pub use Rattle.pld_machine.specs.Through.{AllowsAt}
pub use Rattle.pld_order.proofs.Lists.{eqb_same, has_push}
pub use Rattle.pld_order.proofs.Ranks.{Ranked, no_loop_by_rank, ranked}
pub use Rattle.pld_order.specs.Graphs.{HasNoLoop, HasNoPath, IsChain, has}
pub use Rattle.netlist_laws.specs.ExchangedCorrect.{ExchangedIsSound, ExchangedMeansSo, FreeMayExchange, SameChoiceValues, SameChoices, ShownIsSound}
pub use Rattle.netlist_laws.specs.ExchangedNets.{IsDirectRegister, MayExchangeIn, formula_exchanged, function_exchanged, is_free_wanted, leaf_exchanged}
pub use Rattle.netlist_laws.specs.ExchangedNets.{netlist_exchanged, netlist_shown, shown, wanted_exchanged}
pub use Rattle.netlist_laws.specs.FittedCorrect.{FittedDoesTheChosen, FittedDoesTheSame, FittedDoesWhatItSays, FittedRefines, MeansTheSame}
pub use Rattle.netlist_laws.specs.FittedExample.{ExampleFits, example, example_cell, example_fuses}
pub use Rattle.netlist_laws.specs.Fitting.{AreShared, IsFitted, IsFittedAs, IsFittedCell, IsFittedEnable, IsFittedShared, IsSpareCell, or_complements}
pub use Rattle.netlist_laws.specs.Fitting.{or_may_be}
pub use Rattle.netlist_laws.specs.Gathered.{and_cell, and_node, by_row, cell_by, cell_of, cells_from, gathered, gathered_from, netlist_of, nodes_from}
pub use Rattle.netlist_laws.specs.Gathered.{wanted_for}
pub use Rattle.netlist_laws.specs.GatheredCorrect.{GatheredIsSound, GatheredMeansTheSame}
pub use Rattle.netlist_laws.specs.ModuleCovers.{HasPrimeRows, IsValuedPoint, chosen_logic, or_allows}
pub use Rattle.netlist_laws.specs.PrimeCorrect.{FittedControlsAreOwn, FittedRowsArePrime, FittedSparesAreUnused}
pub use Rattle.netlist_laws.specs.RowCovers.{IsExactRow, IsPrimeCover, IsPrimeRow, IsValuedFor, IsValuedOfFor, any_other, is_used, value_without}
pub use Rattle.netlist_laws.specs.SignalUses.{SignalUse, all_term_uses, given_uses, holds_leaf, reads_of_terms, term_uses, use_reads, uses_read}
pub use Rattle.netlist_laws.specs.Takeable.{ControlIsThere, HasColumns, HasNoEquation, IsTakeable, MayChoose, PinsApart, RegistersHaveCells, is_enabled_by_row}
pub use Rattle.netlist_laws.specs.Takeable.{is_kept, is_row}
