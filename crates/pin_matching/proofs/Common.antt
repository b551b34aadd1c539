-- The words that the proofs of this crate are said in, passed on from one place. Declares nothing.
pub use Rattle.std.proofs.Math.Seq.{take-append_seam, take-length}
pub use Rattle.std.proofs.lemmas.Bool.{and_parts, cases_Bool, cases_eq, cases_lt, eq-eqb, false_from_ne_true, or_cases, or_left, or_right, true≢false}
pub use Rattle.std.proofs.lemmas.List.{ext_get_or, get_or-append_right, get_or-drop, get_or-map, get_or-take, get_or_append_left, get_or_default, get_or_push}
pub use Rattle.std.proofs.lemmas.List.{get_or_read, length-map, length-set, length-take, length_push, take-append-le, take_more_same}
pub use Rattle.std.proofs.lemmas.List.Folds.{list_any-append, list_any_at}
pub use Rattle.std.proofs.lemmas.List.Sorted.{IsNonDecreasingBy-from_sort, length_permutation, list_any-IsPermutation}
pub use Rattle.std.proofs.lemmas.Map.Keys.{IsDistinct-IsPermutation, IsDistinct-cons, IsDistinct-from_apart, IsDistinct-tail}
pub use Rattle.std.proofs.lemmas.Map.Keys.{IsStrictlyIncreasing-from_distinct, apart_from_distinct, below_from_sorted, sorted_from_strictly_increasing}
pub use Rattle.std.proofs.lemmas.Map.Keys.{sorted_tail}
pub use Rattle.std.proofs.lemmas.Map.Made.{is_member-filter, length-from_same_keys, length-le_from_is_member}
pub use Rattle.std.specs.Cmp.{nat_eq_equiv}
pub use Rattle.std.specs.List.{filter, flat_map, list_any}
unfoldable pub use Rattle.std.specs.List.{IsDistinct}
pub use Rattle.std.specs.List.Sorted.{IsPermutation, IsStrictlyIncreasing, IsStrictlySortedBy}
pub use Rattle.std.specs.Set.{distinct_count, unique_keys}
pub use Rattle.pld_order.proofs.Lists.{eqb_flips, eqb_same, few, has_none, has_push, once_push, place_of}
pub use Rattle.pld_order.specs.Graphs.{has}
pub use Rattle.pin_matching.specs.Assignments.{CanPlace, CannotPlace, IsAssignment, IsCrowded, IsFirstUnplaced, IsKept, IsTaken, fits, places, stands_before}
pub use Rattle.pin_matching.specs.Assignments.{wish_of}
pub use Rattle.pin_matching.specs.Choice.{AnswersWhether, AreBest, IsBest}
pub use Rattle.pin_matching.specs.Search.{AreLed, AreReached, AreStuck, IsBegun, IsClosed, IsFirstFitting, IsFreePin, LeadsOn, NoneFits, NoneIsFree, narrowed}
