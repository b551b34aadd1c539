-- The text of a file has no end byte.
use Rattle.std.proofs.Common.{◌≡◌, ℕ, zero, suc, ◌+◌, ◌<◌, ◌≤◌, ◌==◌, nat_lt, Bool, true, false, not, List, [], ◌∷◌, length, take, drop, Option, None, Some, Ok, Err, position, refl, sym, ap, subst, arith, inl, inr}
use Rattle.std.proofs.lemmas.Bool.{cases_Bool}
use Rattle.std.proofs.lemmas.Bool.Decides.{nat_tests}
use Rattle.std.specs.List.{list_all, position_or_len}
use Rattle.jedec_file.specs.declared.jedec_fault.JedecFault.TheVariants as fault
unfoldable use Rattle.jedec_file.specs.Frame.{check_sum, frame_of, length_of, start_of, sum_at}
use Rattle.jedec_file.specs.Frame.{Framed}
use Rattle.jedec_file.specs.Refusals.{Read, ◌>>=◌, some_or}
use Rattle.spliced_files.specs.Spliced.{HasNoEnd}
use Rattle.spliced_files.proofs.KeptFields.{both_ok, ok_same}

before_first : (xs : List ℕ) (k : ℕ) → k ≤ position_or_len (λ b. b == 3) xs → HasNoEnd (take k xs)
before_first xs zero low = refl
before_first [] (suc k) low = refl
before_first (x ∷ xs) (suc k) low = elim (cases_Bool (x == 3)) [
  | inl end ↦ absurd (let none = rw end at low in omega (arith, none))
  | inr other ↦ let rest = rw other at low in rw other (before_first xs k (omega (arith, rest)))
]

found_first : (xs : List ℕ) (k : ℕ) → position (λ b. b == 3) xs ≡ Some k → k ≤ position_or_len (λ b. b == 3) xs
found_first xs k found = elim (cases_Bool (nat_lt (position_or_len (λ b. b == 3) xs) (length xs))) [
  | inr high ↦ absurd (let none = rw high at found in cc)
  | inl low ↦ let same : position_or_len (λ b. b == 3) xs ≡ k = cc (rw low at found) in omega (arith, same)
]

length_first : (xs : List ℕ) (k : ℕ) → length_of xs ≡ Ok k → k ≤ position_or_len (λ b. b == 3) xs
unfolding length_of
length_first xs k is = found_first xs k (by_place (position (λ b. b == 3) xs) is)
  where
    by_place : (o : Option ℕ) → some_or fault.NoEnd o ≡ Ok k → o ≡ Some k
    by_place None none = absurd cc
    by_place (Some n) some = cc

pub text_has_no_end : (bytes : List ℕ) (framed : Framed) → frame_of bytes ≡ Ok framed → HasNoEnd framed.text
unfolding frame_of
text_has_no_end bytes framed is =
    let start = both_ok (start_of bytes) _ framed is in
    let len = both_ok (length_of (drop (start.0 + 1) bytes)) _ framed start.2 in
    let read = both_ok (sum_at (drop (start.0 + len.0 + 2) bytes)) _ framed len.2 in
    let checked = both_ok (check_sum read.0 (take (len.0 + 2) (drop start.0 bytes))) _ framed read.2 in
    subst HasNoEnd (ap (λ (x : Framed). x.text) (ok_same (record { at = start.0 + 1; text = take len.0 (drop (start.0 + 1) bytes) }) framed _ refl checked.2))
    (before_first (drop (start.0 + 1) bytes) len.0 (length_first (drop (start.0 + 1) bytes) len.0 len.1))
