-- The words of the crates below that the clauses of this crate are said in, passed on from one place. Declares nothing.
pub use Rattle.std.specs.Global.{Vec}
pub use Rattle.std.specs.List.{concat, count_by, list_all, list_any, prefix_len}
pub use Rattle.std.specs.Option.{is_some, option_and_then}
pub use Rattle.std.specs.Str.{bytes_eq, str_eq_ignore_ascii_case}
pub use Rattle.abel_lexer.specs.Bytes.{is_blank, is_name_later, line_feed, note_mark, quote, slash}
pub use Rattle.abel_lexer.specs.Keywords.{is_listed}
pub use Rattle.abel_lexer.specs.Kinds.{extension_head, letter_special, marked_head, no_byte, number_head, voltage_special, word_head}
pub use Rattle.abel_lexer.specs.Lengths.{larger, listed_len, number_len, quoted_len, shaped_len, special_len}
unfoldable pub use Rattle.abel_lexer.specs.Lengths.{known_radix, longest_at}
pub use Rattle.abel_lexer.specs.Signs.{signs}
pub use Rattle.text_pieces.specs.Stacks.{ahead, joined}
pub use Rattle.text_pieces.specs.declared.mode.Mode.{Mode}
