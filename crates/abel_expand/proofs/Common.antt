-- The words that the proofs of this crate are said in, passed on from one place. Declares nothing.
pub use Rattle.std.proofs.Math.Seq.{drop-append-add, drop-append_seam, take-append_seam, take-length}
pub use Rattle.std.proofs.lemmas.List.{append_assoc, drop-drop, length-take, length-take-le, take-append-drop}
pub use Rattle.abel_lexer.specs.Scans.{first_place, place_past}
pub use Rattle.abel_macros.specs.Kept.{Kept, tables_of}
pub use Rattle.abel_macros.specs.Rules.{BadDirective, Cause, Done, ExpansionLimit, Move, Refused, Rewritten, Tables, TooLong, Unsupported, move}
pub use Rattle.abel_macros.specs.Turns.{Config, limit, most_rewritings, moved, turn, within_limits}
pub use Rattle.pld_base.specs.declared.place.Place.{Place}
pub use Rattle.text_rewriting.proofs.Replaces.{take_next}
pub use Rattle.text_rewriting.specs.Fronts.{IsFront, changed}
pub use Rattle.text_rewriting.specs.Marks.{DefinesNone, last}
pub use Rattle.abel_expand.specs.Origins.{StandsThere, call_at, called_by, goes_on, lesser, next_at, own_behind, own_left, to_come}
pub use Rattle.abel_expand.specs.Runs.{HasEnded, IsRefusal, IsRefused, Reading, after, bytes_given, bytes_waiting, turned}
pub use Rattle.abel_expand.specs.Stands.{IsOwnEnd, Stands, left_to_do}
