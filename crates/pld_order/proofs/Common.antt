-- The words that the proofs of this crate are said in, passed on from one place. Declares nothing.
pub use Rattle.std.proofs.lemmas.Bool.{and_cases, and_from, and_parts, cases_Bool, cases_eq, cases_lt, eq-eqb, eqb-true, false_from_ne_true, false≢true}
pub use Rattle.std.proofs.lemmas.Bool.{not-false, not-true, or_cases, or_left, or_right, true≢false}
pub use Rattle.std.proofs.lemmas.List.{append-nil, get_or-append_right, get_or-take, get_or_append_left, get_or_default, get_or_past, get_or_push}
pub use Rattle.std.proofs.lemmas.List.{length-append, length-take-le, length_push, set-append_left, set-append_right, take-append-drop, take-append-le, take_at}
pub use Rattle.std.proofs.lemmas.List.Folds.{list_any_at}
pub use Rattle.std.proofs.lemmas.List.Sorted.{IsPermutation-append_comm, list_any-IsPermutation}
pub use Rattle.std.proofs.lemmas.Map.Keys.{IsDistinct-IsPermutation, IsDistinct-push, IsDistinct-tail, apart_from_distinct}
pub use Rattle.std.proofs.lemmas.Nat.Bits.{bit_at-lt, same_from_bits_below, shr_and_one}
pub use Rattle.std.specs.Int.Bits.{and_lt}
unfoldable pub use Rattle.std.specs.List.{IsDistinct}
pub use Rattle.pld_base.proofs.BitLemmas.{is_on-and, is_on-bits, is_on-zero, length-bits}
pub use Rattle.pld_base.specs.Bits.{is_on}
unfoldable pub use Rattle.pld_base.specs.Bits.{bits}
pub use Rattle.pld_order.specs.Graphs.{HasLoop, HasNoLoop, HasNoPath, HasOrder, IsChain, IsLeastLoop, IsLoop, IsOrder, IsPath, has}
pub use Rattle.pld_order.specs.Search.{AreLeading, HasNoneOf, IsClosed, IsDone, IsOnNoLoop, IsOrderSoFar, IsReady, IsReadyBy, IsSetOf, IsStuck, LeadsInto}
pub use Rattle.pld_order.specs.Search.{NoneIsReady, NoneLeadsInto, WaitsForOther}
pub use Rattle.pld_order.specs.Sets.{AreApart, IsWith, IsWithin, members, reads_of}
