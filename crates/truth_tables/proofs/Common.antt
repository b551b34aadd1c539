-- The words that the proofs of this crate are said in, passed on from one place. Declares nothing.
pub use Rattle.std.proofs.Math.Bool.{and-false, and-true, beq, or-false, or_assoc}
pub use Rattle.std.proofs.Math.Seq.{drop-cons, take-length}
pub use Rattle.std.proofs.lemmas.Grind.{common_steps, flat_map-append}
pub use Rattle.std.proofs.lemmas.Iterator.Adapters.{position_from-zero}
pub use Rattle.std.proofs.lemmas.List.{at_drop_all, drop_all, get_or_past, length-append, length-drop, length-map, map-append, replicate-append-replicate}
pub use Rattle.std.proofs.lemmas.List.{reverse-append}
pub use Rattle.std.proofs.lemmas.List.Folds.{list_all-append}
pub use Rattle.std.proofs.lemmas.List.Quantifiers.{position-Some}
pub use Rattle.std.proofs.lemmas.List.Sums.{sum_by-append, sum_by-cons}
pub use Rattle.std.proofs.lemmas.Option.{none-some, slice_get-get_or}
pub use Rattle.std.proofs.lemmas.Result.{IfOk-weaker, err_from_is_err_and, on_ok_weaker}
pub use Rattle.std.specs.Bool.{then_some}
pub use Rattle.std.specs.Global.{Vec}
pub use Rattle.std.specs.List.{AllZip, flat_map, list_all, list_any, position_from, sum_by, zip}
pub use Rattle.std.specs.Option.{is_some, option_map}
pub use Rattle.std.specs.Result.{OnOk}
pub use Rattle.abel_meaning.proofs.RelationWords.{map_reverse}
pub use Rattle.abel_meaning.specs.CountedBlocks.{row_literals, row_nodes, table_units}
pub use Rattle.abel_meaning.specs.Designs.{Context, context_of, no_name}
pub use Rattle.abel_meaning.specs.FormulaBits.{bits_of, formulas, met_by, met_word, resized}
pub use Rattle.abel_meaning.specs.Numbers.{Single, Value, digits, digits_low_first, member_width, width_of}
pub use Rattle.abel_meaning.specs.Rows.{all_marks, entry_levels, level_of_mark, marks_of, part_marks, part_width}
pub use Rattle.abel_meaning.specs.Tables.{agrees, level_gives, match_of, no_matches, outputs_given}
pub use Rattle.abel_meaning.specs.Targets.{all_targets, targets_of}
pub use Rattle.abel_meaning.specs.Terms.{Before, BinaryOf, Known, NoTerm, Number, Pulse, Release, Set, Term, Terms, UnaryOf, X, extended, extended_each}
pub use Rattle.abel_meaning.specs.Terms.{extended_if, known_of, member_before, named_before, special_term, term_meant, term_named, term_of, terms_of}
pub use Rattle.abel_meaning.specs.Values.{binary_by, constant_of, is_relation, empty_point, set_value}
pub use Rattle.abel_tree.proofs.FirstRefusals.{earlier_assoc, earlier_none, first_append, none_refused}
pub use Rattle.abel_tree.specs.Entries.{AConstant, APin, Entry, Kind, entries_of, find, is_signal, is_value, kind_of, names_any, passes, view_declared}
pub use Rattle.abel_tree.specs.FirstRefusal.{earlier, first_refusal}
unfoldable pub use Rattle.abel_tree.specs.FirstRefusal.{is_before}
pub use Rattle.abel_tree.specs.Ranges.{range_names}
pub use Rattle.abel_tree.specs.SoundNames.{IsSoundKind, SoundNames, are_named, is_named}
pub use Rattle.abel_tree.specs.Tree.{ABinary, AName, ANumber, AParen, ASet, ASpecial, AUnary, Members, MoreMembers, NoMember, OneMember, RowTree, SetMember}
pub use Rattle.abel_tree.specs.Tree.{SpanMember, Tree, members_of}
pub use Rattle.abel_tree.specs.Uses.{member_uses, uses}
pub use Rattle.abel_tree.specs.View.{view, view_member, view_row}
pub use Rattle.abel_tree.specs.declared.expressions.Expr.{Expr, size-Expr, the_lemmas}
pub use Rattle.abel_tree.specs.declared.expressions.Member.{Member}
pub use Rattle.abel_tree.specs.declared.names.Names.{Names}
pub use Rattle.abel_tree.specs.declared.words.Binary.{Binary}
pub use Rattle.abel_tree.specs.declared.words.Extension.{Extension}
pub use Rattle.abel_tree.specs.declared.words.Word.{Word}
pub use Rattle.bit_expr.specs.Arena.{formula_at}
unfoldable pub use Rattle.bit_expr.specs.Arena.{arena}
pub use Rattle.bit_expr.specs.Folding.{Made, free}
unfoldable pub use Rattle.bit_expr.specs.Folding.{make_and, make_not}
pub use Rattle.bit_expr.specs.Formulas.{Const, Formula}
pub use Rattle.bit_expr.specs.declared.node.ExprId.{ExprId}
pub use Rattle.bit_expr.specs.declared.node.Node.{Node}
pub use Rattle.equations.proofs.BuiltParts.{bits_length, is_context, keeps_longer, met_length, same_context, stops_longer, value_accepted, whole}
pub use Rattle.equations.proofs.BuiltUnits.{at}
pub use Rattle.equations.proofs.WalkedUnits.{limit_kept, noted_refused, unit_clear, unit_made, unit_refused}
pub use Rattle.expr_bits.proofs.Extensions.{all_extended, each_append, innermost_wins, list_extended, members_more, range_more, set_extended}
pub use Rattle.expr_bits.proofs.Linked.{HasKind, IsLinkedIf, expression_linked}
pub use Rattle.expr_bits.proofs.Views.{view_binary, view_name, view_one, view_set, view_span, view_unary}
pub use Rattle.expr_bits.specs.Members.{each_extended, list_of}
pub use Rattle.name_uses.specs.RangeParts.{name_items}
pub use Rattle.pld_base.specs.declared.place.Place.{Place}
pub use Rattle.pld_device.specs.SampleTable.{sample}
pub use Rattle.section_targets.proofs.Built.{both_empty, builds_none, builds_stop, builds_then, keeps_on, kept_formula, kept_inside, left_empty, right_empty}
pub use Rattle.section_targets.proofs.Built.{stops_on}
pub use Rattle.section_targets.proofs.Looks.{next_of}
pub use Rattle.section_targets.proofs.MetWords.{high_bit, low_bit}
pub use Rattle.section_targets.proofs.OneUnit.{one_unit, two_parts}
pub use Rattle.section_targets.proofs.OverNames.{found_in}
pub use Rattle.section_targets.proofs.StandingFronts.{none_so_far, stands_less, stands_made, stands_same, stands_then}
pub use Rattle.section_targets.proofs.WalksBehind.{both_clear, walks_alike, walks_made, walks_none, walks_then}
pub use Rattle.section_targets.specs.Building.{AreBits, Builds, BuildsNodes, IsBit, IsBuilt, StopsWith}
pub use Rattle.section_targets.specs.Given.{AreNamed, places_of}
pub use Rattle.section_targets.specs.Manners.{AreFirsts, aims_refused, manner_of}
pub use Rattle.section_targets.specs.Units.{CountedUnit, part, units_refused}
pub use Rattle.section_targets.specs.Walking.{AfterMaking, StillStands, Walks, standing}
pub use Rattle.section_targets.specs.declared.aim.Aim.{Aim}
pub use Rattle.section_targets.specs.declared.manner.Manner.{Manner}
pub use Rattle.set_expr.proofs.FoundMembers.{front_more, whole_front}
pub use Rattle.set_expr.specs.Answer.{AreIn, HasUnknown, Keeps, bits_at, first_place, positions, refusal_of, unknown_at}
pub use Rattle.set_expr.specs.Contexts.{context_for}
pub use Rattle.set_expr.specs.FoundNames.{NameFound, all_found, at_name, expression_found, found_after, found_constant, found_entry, found_kind, found_of}
pub use Rattle.set_expr.specs.FoundNames.{found_special, found_use, is_pulse, name_found, named, names_found, nothing_found, one_position, range_found}
pub use Rattle.set_expr.specs.FoundNames.{refused_there}
pub use Rattle.set_expr.specs.Given.{view_gives, view_guard}
pub use Rattle.set_expr.specs.KnownNames.{HasShapeIf, SumsUp}
pub use Rattle.set_expr.specs.Refusals.{Found, found_both, found_set, found_under, large_member, large_number, members_refused, members_specials, members_value}
pub use Rattle.set_expr.specs.Refusals.{members_width, too_wide, value_or_none, width_with}
pub use Rattle.set_expr.specs.Scopes.{AreInOrder, NamesEarlier}
pub use Rattle.set_expr.specs.SectionOrder.{section_order}
pub use Rattle.set_expr.specs.Shapes.{HasShape}
pub use Rattle.set_expr.specs.declared.contributions.Contributions.{Contributions}
pub use Rattle.set_expr.specs.declared.contributions.Guard.{Guard}
pub use Rattle.set_expr.specs.declared.fault.SectionFault.{SectionFault}
pub use Rattle.set_expr.specs.declared.fault.SectionFault.TheVariants.{BadRow, BadWidth, MisplacedSpecial, MixedAssignment, NotAnOutput, NotConstant}
pub use Rattle.set_expr.specs.declared.fault.SectionFault.TheVariants.{ZeroDivisor}
pub use Rattle.set_expr.specs.declared.shaped.Shape.{Shape}
pub use Rattle.truth_tables.specs.{AreClear, AreClearNames, AreClearParts, AreParts, AreSignals, GivesOutput, GivesPositions, HasInputs, HeaderFound, IsAdded}
pub use Rattle.truth_tables.specs.{IsClear, IsClearMember, IsClearName, IsClearPair, IsClearPart, IsClearStand, IsDone, IsListed, IsMet, IsNumeral, IsOfKind}
pub use Rattle.truth_tables.specs.{IsOperator, IsOver, IsPair, IsPart, IsPut, IsEntryRead, IsRow, IsSet, IsShapedTerm, IsStand, IsStep, IsUnrefused, LeadsBack}
pub use Rattle.truth_tables.specs.{NamesOutputs, Opened, StandForInputs, Walked, Walking, StandsTable, WalksTable, StandsWork, WalksWork, Work, all_meet, all_name_positions}
pub use Rattle.truth_tables.specs.{all_refused_inside, all_signs, any_holds_pulse, arrow_refused, assigned_by, before, behind, both_headers, both_sets}
pub use Rattle.truth_tables.specs.{design_of, entry_refused, found_work, given_by, given_freely, given_output, headed_work, header_literals, header_name}
pub use Rattle.truth_tables.specs.{header_of, header_range, header_refused, header_set, header_special, holds_pulse, if_none, inputs_nodes, inputs_term}
pub use Rattle.truth_tables.specs.{is_computed, is_number, is_operand, is_plain, is_pulse_named, is_set, kind_signs, level_refused, levels_of, listing}
pub use Rattle.truth_tables.specs.{literals, matched_guard, meeting, meets, meets_whole, member_holds_pulse, member_refused_inside, named_outputs, names_left}
pub use Rattle.truth_tables.specs.{names_positions, names_refused, no_matches_work, nodes_at, nodes_left, nothing, output_header, output_member, output_members}
pub use Rattle.truth_tables.specs.{outputs_at, outputs_refused, paired, part_parts, places_by, places_for, position_literal, refused_header}
pub use Rattle.truth_tables.specs.{refused_inside, row_places, row_refused, row_units, row_work, rows_places, rows_work, seen, signals_of, signs_left}
pub use Rattle.truth_tables.specs.{some_aims, steps_left, steps_up_to, term_parts, terms_parts, units_behind, units_of, units_of_table, unless_met}
pub use Rattle.truth_tables.specs.{unless_refused, up_to, view_mark}
pub use Rattle.truth_tables.specs.declared.giving.Assigning.{Assigning}
pub use Rattle.truth_tables.specs.declared.mark.Mark.{Mark}
pub use Rattle.truth_tables.specs.declared.part.Pair.{Pair}
pub use Rattle.truth_tables.specs.declared.part.Part.{Part}
pub use Rattle.truth_tables.specs.declared.part.Stand.{Stand}
