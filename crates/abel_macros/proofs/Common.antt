-- The words that the proofs of this crate are said in, passed on from one place. Declares nothing.
pub use Rattle.std.proofs.Math.Seq.{take-add, take-length, take-suc}
pub use Rattle.std.proofs.lemmas.Bool.{eqb-true, lt-ltb, ltb-false, ltb-true}
pub use Rattle.std.proofs.lemmas.List.{drop-drop, drop-take, map-append, map_more, take-append-drop}
pub use Rattle.std.proofs.lemmas.Slice.Eq.{bytes_eq-Decides}
pub use Rattle.std.specs.Char.{is_ascii_alphabetic, is_ascii_alphanumeric, is_ascii_digit}
pub use Rattle.std.specs.Global.{Vec}
pub use Rattle.std.specs.List.{count_by, list_all, prefix_len}
pub use Rattle.std.specs.Option.{option_copied}
pub use Rattle.std.specs.Str.{bytes_eq, str_eq_ignore_ascii_case}
pub use Rattle.abel_lexer.proofs.Booleans.{bool_cases, or_cases}
pub use Rattle.abel_lexer.proofs.FirstBytes.{at_begins, not_all}
pub use Rattle.abel_lexer.proofs.Munches.{listed_munches, none_passes, same_bytes}
pub use Rattle.abel_lexer.specs.Bytes.{dot, is_blank, is_letter, is_name_later, starts}
pub use Rattle.abel_lexer.specs.Lengths.{directive_len, larger, listed_len, longer, number_len, quote_end, quoted_len, shaped_len, special_len, word_at}
unfoldable pub use Rattle.abel_lexer.specs.Lengths.{known_radix, longest_at, longest_word}
pub use Rattle.text_pieces.proofs.Pieces.{joined-push}
pub use Rattle.text_pieces.specs.Stacks.{Look, ahead, joined}
pub use Rattle.text_pieces.specs.declared.mode.Mode.{Mode}
pub use Rattle.abel_macros.specs.Forms.{argument, argument_end, arguments_in, closes_block, closing, ends_argument, nested, parameters_in, trimmed, trimmed_end}
pub use Rattle.abel_macros.specs.Gaps.{before, behind_sign, behind_some, ends_gap, gap, gap_in, given, is_plain, name, passing, quoting, rest_of, sign}
pub use Rattle.abel_macros.specs.Gaps.{starts_byte, word, ◌>>=◌}
pub use Rattle.abel_macros.specs.Kept.{IsResult, Kept, by_bytes, tables_of, under}
pub use Rattle.abel_macros.specs.Pieces.{names, texts}
pub use Rattle.abel_macros.specs.Rules.{BadDirective, Cause, ExpansionLimit, Macro, Tables, TooLong, Unsupported, past_sign, token_len, with_name}
pub use Rattle.abel_macros.specs.Turns.{Config, start, turn}
pub use Rattle.abel_macros.specs.Values.{Read, applied, begun, chain_on, closed, item, level, operand, operator_of, past_prefix, prefix_of, prefixed, primary}
pub use Rattle.abel_macros.specs.Words.{is_word}
unfoldable pub use Rattle.abel_macros.specs.Words.{directive_of, further_directive, plain_directive}
pub use Rattle.abel_macros.specs.declared.operator.Operator.{Operator}
pub use Rattle.abel_macros.specs.declared.operator.Prefix.{Prefix}
pub use Rattle.abel_macros.specs.declared.operator.Priority.{Priority}
