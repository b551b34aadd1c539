-- The words of the crates below that the clauses of this crate are said in, passed on from one place. Declares nothing.
pub use Rattle.std.specs.List.{concat, count_by}
pub use Rattle.abel_macros.specs.Forms.{asked, replaced, standing_for}
pub use Rattle.abel_macros.specs.Gaps.{before, rest_of, starts_byte, word}
pub use Rattle.abel_macros.specs.Kept.{IsResult, Kept, by_bytes, tables_of, under}
pub use Rattle.abel_macros.specs.Pieces.{names, texts}
pub use Rattle.abel_macros.specs.Rules.{BadDirective, Done, Move, Refused, Rewritten, Tables, Unsupported, directed, each_replaced, line_feeds, macro_word}
pub use Rattle.abel_macros.specs.Rules.{named, shown_in, token_len, with_name}
pub use Rattle.abel_macros.specs.Values.{digits_in}
pub use Rattle.text_pieces.specs.Stacks.{Look, ahead, joined}
