-- The words that the proofs of this crate are said in, passed on from one place. Declares nothing.
pub use Rattle.std.proofs.Math.Bool.{or-false, or_assoc}
pub use Rattle.std.proofs.Math.Seq.{take-length}
pub use Rattle.std.proofs.lemmas.Bool.{ltb-false, ltb-true}
pub use Rattle.std.proofs.lemmas.Bool.Decides.{eqb_tells, nat_tests}
pub use Rattle.std.proofs.lemmas.List.{length-map, length-replicate, length-reverse, map-append, nil_from_length, reverse-append, take_all, take_more}
pub use Rattle.std.proofs.lemmas.Option.{get_or_from_slice_get, slice_get-get_or, slice_get-map, slice_get_past, slice_get_within}
pub use Rattle.std.proofs.lemmas.Result.{IfOk-weaker, err_from_is_err_and}
pub use Rattle.std.specs.Global.{Vec}
pub use Rattle.std.specs.List.{list_any, position_or_len}
pub use Rattle.abel_meaning.specs.BitWords.{Word, difference_bits, each_not, less_bit, next_carry, operator_bits, relation_bit, sum_bit, sum_bits, unary_word}
pub use Rattle.abel_meaning.specs.BitWords.{word_by_position}
pub use Rattle.abel_meaning.specs.Designs.{Context, name_at, no_name}
pub use Rattle.abel_meaning.specs.FormulaBits.{bits_of, bits_of_all, kept_bits, make_source, met_by, met_word, operator_word, resized}
pub use Rattle.abel_meaning.specs.Numbers.{Number, Set, Shape, Single, Value, digits_low_first, either_unknown, meeting, member_width, met_unknown}
pub use Rattle.abel_meaning.specs.Numbers.{met_unknown_by, width_of}
pub use Rattle.abel_meaning.specs.Sources.{LeafRead, Source, Zero, source_of, source_value}
pub use Rattle.abel_meaning.specs.Terms.{Before, Known, NoTerm, Read, Term, Terms, extended, extended_each, extended_if, known_after, known_of, member_before}
pub use Rattle.abel_meaning.specs.Terms.{named_before, special_term, term_meant, term_named, term_of, terms_of}
pub use Rattle.abel_meaning.specs.Values.{binary_by, binary_value, bit_value, constant_of, is_relation, empty_point, plain_value, set_value, unary_value}
pub use Rattle.abel_tree.specs.Entries.{AConstant, ADeviceName, Entry, Kind, entries_of, find, view_declared, view_meaning}
pub use Rattle.abel_tree.specs.Extensions.{innermost}
pub use Rattle.abel_tree.specs.Ranges.{range_names}
pub use Rattle.abel_tree.specs.Tree.{ABinary, AName, ANumber, AParen, ASet, ASpecial, AUnary, Members, MoreMembers, NoMember, OneMember, SetMember, SpanMember}
pub use Rattle.abel_tree.specs.Tree.{Tree, members_of}
pub use Rattle.abel_tree.specs.View.{view, view_member}
pub use Rattle.abel_tree.specs.declared.names.Declared.{Declared}
pub use Rattle.abel_tree.specs.declared.names.Names.{Names}
pub use Rattle.abel_tree.specs.declared.words.Binary.{Binary}
pub use Rattle.abel_tree.specs.declared.words.Extension.{Extension}
pub use Rattle.abel_tree.specs.declared.words.Unary.{Unary}
pub use Rattle.bit_expr.proofs.ArenaLists.{arena_count, low_formula}
pub use Rattle.bit_expr.specs.Arena.{Adds, Grew, MOST, PassesLimit, formula_at}
unfoldable pub use Rattle.bit_expr.specs.Arena.{arena}
pub use Rattle.bit_expr.specs.Folding.{Made, free, ◌>>=◌}
unfoldable pub use Rattle.bit_expr.specs.Folding.{make_and, make_not, make_or, make_xor}
pub use Rattle.bit_expr.specs.Formulas.{Const, Formula, formula_value}
pub use Rattle.bit_expr.specs.declared.fault.ExprFault.{ExprFault}
pub use Rattle.bit_expr.specs.declared.node.ExprId.{ExprId}
pub use Rattle.bit_expr.specs.declared.node.Node.{Node}
pub use Rattle.name_uses.specs.RangeParts.{name_items}
pub use Rattle.name_uses.specs.Viewed.{view_use}
pub use Rattle.pld_base.specs.declared.out_of_memory.OutOfMemory.{OutOfMemory}
pub use Rattle.pld_base.specs.declared.place.Place.{Place}
pub use Rattle.pld_device.specs.Table.{Table}
pub use Rattle.set_expr.proofs.FoundMembers.{front_more, whole_front}
pub use Rattle.set_expr.specs.Answer.{AreIn, IsContextOf, IsShaped, bits_at, positions, refusal_of, unknown_at}
pub use Rattle.set_expr.specs.Contexts.{context_for}
pub use Rattle.set_expr.specs.FoundNames.{NameFound, all_found, at_name, expression_found, found_after, found_before, found_constant, found_entry, found_kind}
pub use Rattle.set_expr.specs.FoundNames.{found_of, found_use, found_value, is_pulse_kind, name_found, named, names_found, nothing_found, one_position}
pub use Rattle.set_expr.specs.FoundNames.{range_found, refused_there}
pub use Rattle.set_expr.specs.declared.fault.SectionFault.{SectionFault}
pub use Rattle.set_expr.specs.declared.shaped.Shaped.{Shaped}
pub use Rattle.expr_bits.specs.{ALeaf, ASignal, AllIn, AreParts, AreRows, AreStacked, Asked, ComesTo, Do, Finds, HasForm, HasUnknown, IsBits, IsBlank, IsKept}
pub use Rattle.expr_bits.specs.{IsKeptIf, IsMade, IsPart, IsReads, IsRow, Makes, MakesBits, MeetsAs, Part, Precedes, Push, ShowsAll, ShowsItems, ShowsOne}
pub use Rattle.expr_bits.specs.{ShowsStack, ShowsTwo, Task, after_all, after_task, along, any_reads_leaf, as_set, below, bit_id, both_part, computed_part}
pub use Rattle.expr_bits.specs.{computed_value, digit_ids, each_extended, entry_weight, found_weight, here_term, inside, is_last, is_leaf, joined_part}
pub use Rattle.expr_bits.specs.{kept_ids, leaf_under, left_by, list_of, made_by, member_weight, members_weight, name_weight, named_answer, named_term}
pub use Rattle.expr_bits.specs.{named_weight, names_to, no_part, no_reads, number_part, number_weight, or_and_of, place_of, shown_ids, positions_of, pushed}
pub use Rattle.expr_bits.specs.{range_weight, reads_at, reads_leaf, reads_of_row, reads_signal, related_part, relation_of, relation_step, relation_steps}
pub use Rattle.expr_bits.specs.{resized_ids, set_by, shape_of, some_of_read, some_read, stack_weight, start_id, start_of, step_by, step_of, sum_step, task_of}
pub use Rattle.expr_bits.specs.{tasks_of, term_part, told_by, top, tree_weight, under_of, under_part, upto_of, used_answer, width_of_two, with_value, word_at}
pub use Rattle.expr_bits.specs.{word_in, work_weight}
pub use Rattle.expr_bits.specs.declared.forms.Bits.{Bits}
pub use Rattle.expr_bits.specs.declared.forms.Form.{Form}
pub use Rattle.expr_bits.specs.declared.reads.Reads.{Reads}
pub use Rattle.expr_bits.specs.declared.steps.Step.{Step}
pub use Rattle.expr_bits.specs.declared.work.Work.{Work}
