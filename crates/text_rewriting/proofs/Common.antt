-- The words that the proofs of this crate are said in, passed on from one place. Declares nothing.
pub use Rattle.std.proofs.Math.Nat.{div-lt_iff_lt-mul, le-min, suc-mul}
pub use Rattle.std.proofs.Math.Seq.{drop-append-add, drop-length, drop-nil, take-add}
pub use Rattle.std.proofs.lemmas.Bool.{eq-eqb, eqb-true, le-ltb, lt-ltb, ltb-false, ltb-true}
pub use Rattle.std.proofs.lemmas.List.{drop-drop, drop_all}
pub use Rattle.std.specs.Global.{Vec}
pub use Rattle.std.specs.List.{concat, count_by, prefix_len}
pub use Rattle.std.specs.Str.{bytes_eq, str_eq_ignore_ascii_case}
pub use Rattle.abel_lexer.proofs.Booleans.{bool_cases}
pub use Rattle.abel_lexer.specs.Bytes.{is_name_later, quote}
pub use Rattle.abel_lexer.specs.Lengths.{quoted_len, shaped_len}
pub use Rattle.abel_macros.proofs.Behind.{before_drop}
pub use Rattle.abel_macros.specs.Forms.{arguments, asked, replaced, standing_for}
pub use Rattle.abel_macros.specs.Gaps.{before, comment, gap, given, passing, rest_of, starts_byte, string_len, word, ◌>>=◌}
pub use Rattle.abel_macros.specs.Kept.{IsResult, by_bytes, tables_of, under}
pub use Rattle.abel_macros.specs.Pieces.{names, texts}
pub use Rattle.abel_macros.specs.Rules.{BadDirective, Done, Macro, Move, Refused, Rewritten, Tables, behind_directive, called, definition, directed}
pub use Rattle.abel_macros.specs.Rules.{directive_of, each_replaced, line_feeds, macro_word, move, named, or_bad, shown_in, token_len, value_form, with_name}
pub use Rattle.abel_macros.specs.Values.{digits_in}
pub use Rattle.text_pieces.specs.Stacks.{ahead, joined}
pub use Rattle.text_rewriting.specs.Bound.{bound}
pub use Rattle.text_rewriting.specs.Fronts.{IsChange, IsFront, IsMade, IsRewritten, changed}
pub use Rattle.text_rewriting.specs.Gathering.{Gathering}
pub use Rattle.text_rewriting.specs.RuleMoves.{IsCallOf, IsRuleOf, plain_move, rewriting_text, rule_move}
unfoldable pub use Rattle.text_rewriting.specs.RuleMoves.{digits}
pub use Rattle.text_rewriting.specs.declared.front.Front.{Front}
pub use Rattle.text_rewriting.specs.declared.gathered.Shortage.{Shortage}
