-- The words that the proofs of this crate are said in, passed on from one place. Declares nothing.
pub use Rattle.std.proofs.Math.Seq.{drop-append-add, drop-cons, take-append-add, take-length, take-suc}
pub use Rattle.std.proofs.lemmas.Bool.{ne_eqb}
pub use Rattle.std.proofs.lemmas.List.{drop-drop, drop-take, take-append-le, take-take}
pub use Rattle.std.specs.List.{count_by}
pub use Rattle.text_pieces.specs.Brackets.{argument_end, braces, closes_block, closing, ends_argument, open_in}
pub use Rattle.text_pieces.specs.Homes.{home_bytes}
pub use Rattle.text_pieces.specs.Known.{ClosesAt, EndsAt, FreeOf, Tells}
pub use Rattle.text_pieces.specs.Modes.{is_plain, passing, quoting, starts_byte}
pub use Rattle.text_pieces.specs.Opened.{ArgumentsOpen, BlocksOpen, Opened}
pub use Rattle.text_pieces.specs.Places.{IsPlace, at_of, text_at}
pub use Rattle.text_pieces.specs.Stacks.{ahead, joined, rest_of, stacked}
pub use Rattle.text_pieces.specs.Stops.{is_stop}
pub use Rattle.text_pieces.specs.declared.ends.Ends.{Ends}
pub use Rattle.text_pieces.specs.declared.mode.Mode.{Mode}
pub use Rattle.text_pieces.specs.declared.stop.Stop.{Stop}
