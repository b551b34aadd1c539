-- The words that the proofs of this crate are said in, passed on from one place. Declares nothing.
pub use Rattle.std.proofs.Math.Nat.{mod-eq_of_lt, mod-lt, mul-le-mul_right, pow-succ'}
pub use Rattle.std.proofs.lemmas.Bool.{and_parts, cases_Bool, le-leb, leb-true, lt-ltb, ltb-true}
pub use Rattle.std.proofs.lemmas.Bool.Decides.{Decides-eqb, Decides-ltb, same_from_decides}
pub use Rattle.std.proofs.lemmas.List.{length-reverse, map-append, reverse-append}
pub use Rattle.std.proofs.lemmas.Nat.{mod-mul-add, pow-add}
pub use Rattle.std.specs.List.{list_all, list_any}
pub use Rattle.abel_tree.specs.declared.words.Binary.{Binary}
pub use Rattle.abel_tree.specs.declared.words.Extension.{Extension}
pub use Rattle.bit_expr.proofs.FoldingValues.{and_value, not_value, or_value, xor_value}
pub use Rattle.bit_expr.specs.Folding.{Made, ◌>>=◌}
unfoldable pub use Rattle.bit_expr.specs.Folding.{make_and, make_not, make_or, make_xor}
pub use Rattle.bit_expr.specs.Formulas.{Const, Formula, Read, differ, formula_value}
pub use Rattle.pld_base.specs.Bits.{same_level}
pub use Rattle.pld_base.specs.Points.{Levels}
pub use Rattle.abel_meaning.specs.AtPoints.{given_at, truth_at}
pub use Rattle.abel_meaning.specs.BitWords.{Word, difference_bits, each_not, equal_bits, less_bit, less_bits, next_carry, operator_bits, relation_bit, sum_bit}
pub use Rattle.abel_meaning.specs.BitWords.{sum_bits, unary_word, word_by_position}
pub use Rattle.abel_meaning.specs.Contributions.{Any, Contribution, Evaluator, Gives, Guard, Match, One, condition, contribution, guarded}
pub use Rattle.abel_meaning.specs.Designs.{Context, Design}
pub use Rattle.abel_meaning.specs.Follows.{Follows, seen, seen_guard}
pub use Rattle.abel_meaning.specs.FormulaBits.{binary_word, bits_of, bits_of_all, formulas, kept_bits, make_source, met_by, met_word, operator_word}
pub use Rattle.abel_meaning.specs.FormulaBits.{relation_word, resized}
pub use Rattle.abel_meaning.specs.Functions.{Function, allows_plain, any_against, any_of, both_function, function_of, function_seen, gives_in, gives_some}
pub use Rattle.abel_meaning.specs.Functions.{is_both, is_complement, is_data_in, is_data_to, is_free_elsewhere, same_gives, single_function, some_holds}
pub use Rattle.abel_meaning.specs.Numbers.{Number, Set, Shape, Single, Value, digits, digits_low_first, either_unknown, kept, meeting, member_width, met}
pub use Rattle.abel_meaning.specs.Numbers.{met_number, met_unknown, number_with, one_bit, width_of, zipped}
pub use Rattle.abel_meaning.specs.SignalReads.{given_formulas}
pub use Rattle.abel_meaning.specs.Sources.{LeafRead, Source, Zero, source_of, source_value}
pub use Rattle.abel_meaning.specs.Terms.{Term, Terms, term_of}
pub use Rattle.abel_meaning.specs.Values.{binary_by, binary_value, compares, compares_kept, computes, computes_numbers, constant_of, is_relation, joined_value}
pub use Rattle.abel_meaning.specs.Values.{empty_point, operator_number, set_value, term_value, unary_number, unary_value}
