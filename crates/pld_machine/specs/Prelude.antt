-- The words of the crates below that the clauses of this crate are said in, passed on from one place. Declares nothing.
pub use Rattle.std.specs.List.{All, range_with_len}
pub use Rattle.pld_base.specs.Bits.{is_on, same_level}
unfoldable pub use Rattle.pld_base.specs.Bits.{bits}
pub use Rattle.pld_base.specs.Logic.{Logic, is_register}
pub use Rattle.pld_base.specs.Points.{IsPoint, Levels, levels_of}
