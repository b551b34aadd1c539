-- The words that the proofs of this crate are said in, passed on from one place. Declares nothing.
pub use Rattle.std.proofs.lemmas.List.FromFn.{map-range_with_len_more}
pub use Rattle.std.specs.List.{list_any, range_with_len}
pub use Rattle.pair_commands.specs.Prelude.{bits, cell_at, is_on, level_char}
pub use Rattle.pair_commands.specs.PairText.{pin_digits, q_on}
