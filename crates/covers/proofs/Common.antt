-- The words that the proofs of this crate are said in, passed on from one place. Declares nothing.
pub use Rattle.std.proofs.Math.Pow.{pow-lt, pow_mono}
pub use Rattle.std.proofs.lemmas.Bool.{and_cases, and_from, and_parts, cases_Bool, cases_eq, cases_lt, eq-eqb, eqb-false, eqb-true, false_from_ne_true}
pub use Rattle.std.proofs.lemmas.Bool.{false≢true, ne_eqb, not-false, not-true, or_cases, or_left, or_parts, or_right, true_from_ne_false}
pub use Rattle.std.proofs.lemmas.Bool.Decides.{nat_tests}
pub use Rattle.std.proofs.lemmas.List.{append_assoc, drop-append-le, drop-drop, drop-set-add, drop-set-lt, drop-take, drop_all, drop_at, drop_more, get_or-drop}
pub use Rattle.std.proofs.lemmas.List.{get_or-set_other, get_or-set_same, get_or-take, get_or_append_left, length-append, length-drop, length-set, length-take}
pub use Rattle.std.proofs.lemmas.List.{length_push, map-append, take-append-drop, take-append-le, take-set-le, take-take, take_all, take_more}
pub use Rattle.std.proofs.lemmas.List.Edits.{between_more, between_none, get_or-between, get_or-remove_above, get_or-remove_below, length-between}
pub use Rattle.std.proofs.lemmas.List.Edits.{length-remove, length-swap, swap_is}
pub use Rattle.std.proofs.lemmas.List.Elements.{All-append, All-cons, All-contains, All-contains_itself, All-filter, All-get_or, All-head, All-map, All-nil}
pub use Rattle.std.proofs.lemmas.List.Elements.{All-push, All-set, All-tail, All-take, All-weaker, filter-append}
pub use Rattle.std.proofs.lemmas.List.Folds.{Any-from_list_any, list_any-append, list_any_at}
pub use Rattle.std.proofs.lemmas.Nat.{and_le_l, mul-le, or_lt, pow_pos}
pub use Rattle.std.proofs.lemmas.Nat.Bits.{bit_at-lt, bit_at-pow_other, bit_at-pow_same, bit_at-trailing_zeros, bit_at-zero, bit_at_above, bit_at_and}
pub use Rattle.std.proofs.lemmas.Nat.Bits.{bit_at_clear_other, bit_at_clear_same, bit_at_not, bit_at_or, same_from_bits}
pub use Rattle.std.proofs.lemmas.Option.{get_or_from_slice_get}
pub use Rattle.std.proofs.lemmas.Slice.{between_is, between_to_end}
pub use Rattle.std.specs.Int.{bit_at, bit_not, trailing_zeros, w32}
pub use Rattle.std.specs.List.{list_any, remove, swap}
pub use Rattle.pld_base.proofs.BitLemmas.{is_on-bits, length-bits, same_levels}
pub use Rattle.pld_base.specs.Bits.{is_on, same_level}
unfoldable pub use Rattle.pld_base.specs.Bits.{bits}
pub use Rattle.covers.specs.Cofactors.{IsCofactor, cofactor_of, opposites_at}
unfoldable pub use Rattle.covers.specs.Cofactors.{complement_of}
pub use Rattle.covers.specs.Covers.{CoversAll, CoversCube, CoversList}
pub use Rattle.covers.specs.Cubes.{AllAskBelow, AsksBelow, Grows, asks, covers, fits, full_cube, has_from, has_point, is_empty, is_full, lies_in, literal_cube}
pub use Rattle.covers.specs.Cubes.{meets, union, without}
pub use Rattle.covers.specs.Expanded.{CoversBoth, CoversCommon, IsExpanded}
pub use Rattle.covers.specs.Off.{HasFound, IsApart, off_list}
pub use Rattle.covers.specs.Outside.{FindsMissed, FindsOutside, IsOutside, Misses, moved_number}
pub use Rattle.covers.specs.Passes.{HasRows}
pub use Rattle.covers.specs.Pool.{Pool}
pub use Rattle.covers.specs.Prime.{IsIrredundant, IsPrime, IsPrimeIrredundant}
pub use Rattle.covers.specs.Reduced.{IsReduced}
pub use Rattle.covers.specs.Unate.{binate_of, branch_of, opposite_of, splits}
unfoldable pub use Rattle.covers.specs.Unate.{asked_of, ones}
pub use Rattle.covers.specs.declared.cube.Cube.{Cube}
