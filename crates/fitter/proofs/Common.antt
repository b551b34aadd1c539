-- The words that the proofs of this crate are said in, passed on from one place. Declares nothing.
pub use Rattle.std.proofs.Math.Seq.{get_or-append_seam}
pub use Rattle.std.proofs.lemmas.Bool.{and_parts, cases_Bool, cases_eq, cases_lt, eq-eqb, eqb-false, eqb-true, false≢true, lt-ltb, ne_eqb, not-true, or_cases}
pub use Rattle.std.proofs.lemmas.Bool.{or_left, or_right, true≢false}
pub use Rattle.std.proofs.lemmas.Bool.Decides.{nat_tests}
pub use Rattle.std.proofs.lemmas.List.{drop_all, drop_more, get_or-map, get_or-take, get_or_append_left, get_or_past, length-append, length-map}
pub use Rattle.std.proofs.lemmas.List.{length-replicate, length-take, take_all, take_more}
pub use Rattle.std.proofs.lemmas.List.Elements.{All-from_recursion, All-head, All-tail}
pub use Rattle.std.proofs.lemmas.List.Folds.{list_any_at}
pub use Rattle.std.proofs.lemmas.List.FromFn.{get_or-map-range_with_len, length-map-range_with_len}
pub use Rattle.std.proofs.lemmas.List.Sorted.{All-permutation, IsNonDecreasingBy-from_sort_by_key, IsPermutation-keeps, length_permutation}
pub use Rattle.std.proofs.lemmas.List.Sorted.{list_any-IsPermutation}
pub use Rattle.std.proofs.lemmas.Nat.{xor_lt}
pub use Rattle.std.proofs.lemmas.Nat.Bits.{bit_at-lt, bit_at-zero, bit_at_xor}
pub use Rattle.std.proofs.lemmas.Option.{get_or_from_slice_get, none-some, same_Some, slice_get-get_or, slice_get_past, slice_get_read, slice_get_within}
pub use Rattle.std.proofs.lemmas.Result.{err_from_is_err_and}
pub use Rattle.std.specs.Global.{Vec}
pub use Rattle.std.specs.Int.{bit_at}
pub use Rattle.std.specs.Int.Bits.{bit_xor}
pub use Rattle.std.specs.List.{All, list_any, range_with_len, swap}
pub use Rattle.std.specs.Option.{option_map, option_to_list}
pub use Rattle.abel_meaning.specs.Functions.{allows, allows_plain, value_with_any_0}
pub use Rattle.abel_meaning.specs.NetlistLogic.{enable_of, netlist_stores, registers_as}
pub use Rattle.abel_meaning.specs.NetlistReads.{netlist_waits, signal_count}
pub use Rattle.abel_meaning.specs.Netlists.{PlainNetlist, Wanted, as_named, earlier_name, first_with, function_at, no_function, node_at, own_of, plain_control}
pub use Rattle.abel_meaning.specs.Netlists.{plain_function, plain_netlist, plain_wanted, shared_function, wanted_at}
pub use Rattle.abel_meaning.specs.SoundIds.{IsCellIn, IsControlIn, IsSoundNetlist, no_pair, pair_of_cell, pair_of_pin}
pub use Rattle.abel_meaning.specs.Soundness.{IsReadable, IsSound, IsSoundCell, IsSoundFormula, IsSoundFree, IsSoundShared, MayRegister}
pub use Rattle.bit_expr.proofs.ArenaLists.{arena_count, first_formula, get_kept}
pub use Rattle.bit_expr.specs.Arena.{constants, formula_at}
unfoldable pub use Rattle.bit_expr.specs.Arena.{arena}
pub use Rattle.bit_expr.specs.Formulas.{And, Const, Formula, Not, Or, Read, Xor, formula_value, leaf_value, names, same_leaf}
pub use Rattle.bit_expr.specs.declared.netlist.CellWanted.{CellWanted}
pub use Rattle.bit_expr.specs.declared.netlist.Control.{Control}
pub use Rattle.bit_expr.specs.declared.netlist.Function.{Function}
pub use Rattle.bit_expr.specs.declared.netlist.Netlist.{Netlist}
pub use Rattle.bit_expr.specs.declared.node.ExprId.{ExprId}
pub use Rattle.bit_expr.specs.declared.node.Leaf.{Leaf}
pub use Rattle.covers.proofs.CubePoints.{fits_at, has_point_each, point_one, point_zero}
pub use Rattle.covers.proofs.RowsOthers.{exchange_case, exchanged, other_covers, some_of, swapped_others}
pub use Rattle.covers.specs.Covers.{CoversCube, CoversList}
pub use Rattle.covers.specs.Cubes.{AllAskBelow, AsksBelow, asks, covers, fits, full_cube, has_from, has_point, literal_cube, without}
pub use Rattle.covers.specs.Prime.{IsIrredundant, IsPrime, IsPrimeIrredundant}
pub use Rattle.covers.specs.declared.cube.Cube.{Cube}
pub use Rattle.device_logic.proofs.Ranges.{carry_in_range, preset_in, reset_in}
pub use Rattle.fit_plans.proofs.TurnedCubes.{covers_turned, length_turned, turned_points}
pub use Rattle.fit_plans.specs.Choices.{FitsRoom}
pub use Rattle.fit_plans.specs.Columns.{all_turned, turned}
pub use Rattle.fit_plans.specs.Controls.{IsBurned, control_level, form_at, told_level}
pub use Rattle.fit_plans.specs.Covered.{CanCover, HasNoLists, IsCoverOf, IsListedAs, IsTriedAs, IsTriedCell, control_function}
pub use Rattle.fit_plans.specs.Covering.{IsCoverBetween}
pub use Rattle.fit_plans.specs.Forms.{follows_as, may_be_inverted_as, names_or, or_is_complement, rows_are_positive}
pub use Rattle.fit_plans.specs.Owners.{cube_for, of_cell, planned}
pub use Rattle.fit_plans.specs.Points.{levels_turned}
pub use Rattle.fit_plans.specs.RowCubes.{HoldsCubes, fuse_at}
unfoldable pub use Rattle.fit_plans.specs.RowCubes.{row_of, zeros}
pub use Rattle.fit_plans.specs.Tries.{allowed_of, needed_of, one_of, one_or_any}
pub use Rattle.fit_plans.specs.declared.choosing.Tried.{Tried}
pub use Rattle.fit_plans.specs.declared.control_fuses.CellForm.{CellForm}
pub use Rattle.fit_plans.specs.declared.plan.CellPlan.{CellPlan}
pub use Rattle.fit_plans.specs.declared.plan.Plan.{Plan}
pub use Rattle.netlist_laws.proofs.BoolLaws.{both_ways}
pub use Rattle.netlist_laws.proofs.ExchangedCells.{shared_exchanged, wanted_at_exchanged}
pub use Rattle.netlist_laws.proofs.ExchangedFormulas.{function_value_exchanged, q_at, value_exchanged}
pub use Rattle.netlist_laws.proofs.ExchangedLogic.{exchanged_means_so}
pub use Rattle.netlist_laws.proofs.FormulaLeaves.{same_leaf-refl, value_same}
pub use Rattle.netlist_laws.proofs.RowLiterals.{HasPair, column_of}
pub use Rattle.netlist_laws.proofs.UnusedRows.{data_row_below, unused_value}
pub use Rattle.netlist_laws.proofs.Valuing.{is_valued_of, node_falls, valued, valued_node, valued_past}
pub use Rattle.netlist_laws.proofs.WantedCells.{IsSoundAt, found, sound_at}
pub use Rattle.netlist_laws.specs.ExchangedNets.{MayExchangeIn, formula_exchanged, function_exchanged, is_free_wanted, netlist_exchanged, shown}
pub use Rattle.netlist_laws.specs.ExchangedNets.{wanted_exchanged}
pub use Rattle.netlist_laws.specs.Fitting.{AreShared, IsFitted, IsFittedAs, IsFittedCell, IsFittedEnable, IsFittedShared, IsSpareCell, or_complements}
pub use Rattle.netlist_laws.specs.Fitting.{or_may_be}
pub use Rattle.netlist_laws.specs.RowCovers.{IsExactRow, IsPrimeCover, IsPrimeRow, IsValuedFor, IsValuedOfFor, any_other, is_used, value_without}
pub use Rattle.pld_base.proofs.BitLemmas.{is_on-bits, is_on-zero, length-bits, same_levels}
pub use Rattle.pld_base.specs.Bits.{is_on, same_level}
unfoldable pub use Rattle.pld_base.specs.Bits.{bits}
pub use Rattle.pld_base.specs.Points.{IsPoint, Levels, levels_of}
pub use Rattle.pld_base.specs.declared.point.Point.{Point}
pub use Rattle.pld_device.proofs.OwnPins.{pairs_apart}
pub use Rattle.pld_device.specs.Laws.{Inverts, IsDevice, IsFixed, IsPair, Registers, Switches, fuse_for, fuse_if_any}
pub use Rattle.pld_device.specs.Macrocells.{complement_if, data_complements, data_rows, pin_complements}
pub use Rattle.pld_device.specs.Pins.{IsPairOf, carries_cell, pair_pins, pin_carried}
pub use Rattle.pld_device.specs.Registers.{is_inverted, says, stores, stores_by}
pub use Rattle.pld_device.specs.Rows.{carried, columns_of, is_switched_on, pair_values, row_fuses, row_is_true, row_value}
pub use Rattle.pld_device.specs.Table.{IsDataRow, Table, cell_at, inverted_at, no_cell, registered_at}
pub use Rattle.pld_device.specs.declared.carry.Carry.{Carry}
pub use Rattle.pld_device.specs.declared.cell.Cell.{Cell}
pub use Rattle.pld_device.specs.declared.enable.Enable.TheVariants.{PinLow, Driven, Released, Row}
pub use Rattle.pld_device.specs.declared.flip.Flip.{Flip}
pub use Rattle.pld_device.specs.declared.flip.Flip.TheVariants.{AfterRegister, Always, BeforeRegister}
pub use Rattle.pld_device.specs.declared.kinds.Kinds.TheVariants.{Combinational, Either, Registered}
pub use Rattle.pld_machine.proofs.ExchangedPoints.{point_exchanged}
pub use Rattle.pld_machine.specs.Exchanged.{exchanged_at, in_sense}
pub use Rattle.pld_order.proofs.Ranks.{Ranked, no_loop_by_rank, ranked}
pub use Rattle.pld_order.specs.Graphs.{has}
pub use Rattle.sop_lowering.proofs.WrittenValues.{written_values}
pub use Rattle.sop_lowering.specs.Lowering.{CanLower, Fails}
pub use Rattle.sop_lowering.specs.Products.{Products, sum_of}
pub use Rattle.sop_lowering.specs.Values.{AreNodesValued, Carries, CarriesLeaf, HasValue}
pub use Rattle.sop_lowering.specs.Written.{bit_list, function_of_node, node_formula, pair_of, written}
pub use Rattle.sop_lowering.specs.declared.fault.LowerFault.{LowerFault}
pub use Rattle.fitter.specs.Answers.{FitAnswers, HasControls, IsFitOf, IsTooMany}
pub use Rattle.fitter.specs.CellCovered.{CanCoverCell, HasChecked, HasCheckedAs, HasCovers, HasCoversAs, HasRows, IsChecked, IsCheckedAt, IsCovered}
pub use Rattle.fitter.specs.CellCovered.{IsCoveredAt, IsFirstBelow, IsFirstNumber, IsListed, IsWideAt}
pub use Rattle.fitter.specs.Coverable.{IsSoundId, SoundCover}
pub use Rattle.fitter.specs.Covered.{AreCovered, CoversBelow, EachCoveredBelow}
pub use Rattle.fitter.specs.Evaluating.{AreNext, CanEvaluate, HasValues, IsWired}
pub use Rattle.fitter.specs.Missing.{FindsApart, FindsMissed, IsApart, IsMissed}
pub use Rattle.fitter.specs.Order.{AreRowsInOrder}
unfoldable pub use Rattle.fitter.specs.Order.{fuse_number}
pub use Rattle.fitter.specs.Planned.{AreChosen, ArePlanned, ArePlannedAt, AreRowsOf, AreSharedRows, AreSingle, EachFitsBelow, EntriesBelow, HasRowsAt}
pub use Rattle.fitter.specs.Planned.{HasSharedRow, IsEntryOf, IsManyRows, IsOver, IsOverAt, IsRowOf, IsSharedBitOf, IsSingleRow, OneFitsAt, RowsBelow}
pub use Rattle.fitter.specs.Planned.{SingleBelow}
pub use Rattle.fitter.specs.Plans.{HasCellPlan, IsChosenMask, IsFunctionOf, IsTurnMask, PlansAs, PlansCell, PlansControl, PlansFit, PlansNetlist, PlansRows}
pub use Rattle.fitter.specs.Plans.{PlansShared, PlansSpare, bit_or, carries_chosen, carries_complement, cell_wanted, enable_bit, is_chosen, is_free_cell}
pub use Rattle.fitter.specs.Products.{DifferIn, EnablesBelow, IsFirstSum, IsNoProduct, IsOneProduct, IsProduct, IsSharedProduct}
pub use Rattle.fitter.specs.Rows.{HasFittingCover, IsDirectOver, IsFittedEntry, IsHeavier, IsOverRoom, Rises}
unfoldable pub use Rattle.fitter.specs.Rows.{row_number}
pub use Rattle.fitter.specs.Sharing.{AllListed, AreNotShared, AreSharedBelow, FindsApartAt, IsAlikeAt, IsApartAt, IsFirstOf, IsFirstWith, IsListedBit}
pub use Rattle.fitter.specs.Sharing.{IsSharedBit, better_of, is_earlier, own_control, own_formula}
pub use Rattle.fitter.specs.Turning.{AreTurned, IsChoiceMask, IsTurnedCell, carries_choice}
pub use Rattle.fitter.specs.Width.{HasNoWeight, IsControlTooWide, IsFirstWide, IsFunctionTooWide, IsTooWide, NoneWide, width_order}
pub use Rattle.fitter.specs.declared.answer.FittedCell.{FittedCell}
pub use Rattle.fitter.specs.declared.cell_covering.CellCovers.{CellCovers}
pub use Rattle.fitter.specs.declared.fault.FitFault.{FitFault}
pub use Rattle.fitter.specs.declared.planning.CellRows.{CellRows}
pub use Rattle.fitter.specs.declared.shared.SharedControl.{SharedControl}
pub use Rattle.fitter.specs.declared.shared.SharedControl.TheVariants.{Preset, Reset}
pub use Rattle.fitter.specs.declared.shared_rows.SharedRows.{SharedRows}
