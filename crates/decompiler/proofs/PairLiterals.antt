-- A row's literals, pair by pair.
use Rattle.std.proofs.Common.{◌≡◌, ℕ, zero, suc, ◌+◌, ◌*◌, ◌<◌, ◌≤◌, Bool, true, false, Some, None, List, [], ◌∷◌, ◌++◌, length, drop, map, slice_get, get_or, add-one, refl, ap, sym, ◌∙◌, arith, append_assoc, append-nil}
use Rattle.decompiler.proofs.Common.{map-append, slice_get-get_or, is_on, Carry, ColumnLiteral, if_intact, literal, literals_of, literals_at}
use Rattle.pld_device.specs.declared.carry.Carry.TheVariants as carry

-- the literals from a pair on are its own, and those of the pairs after it
walk : (fs : List Bool) (xs : List Carry) (p k : ℕ) (x : Carry) → k ≡ 2 * p → length fs ≡ 2 * length xs → slice_get xs p ≡ Some x
    → literals_of (drop k fs) (drop p xs) ≡ if_intact (is_on fs k) (literal false x) ++ (if_intact (is_on fs (suc k)) (literal true x) ++ literals_of (drop (suc (suc k)) fs) (drop (suc p) xs))
walk fs [] p k x twice long found = absurd (none_some found)
  where
    none_some : None ≡ Some x → ⊥
    none_some e = cc
walk [] (y ∷ xs) p k x twice long found = absurd (omega arith)
walk (a ∷ []) (y ∷ xs) p k x twice long found = absurd (omega arith)
walk (a ∷ b ∷ fs) (y ∷ xs) zero zero x twice long found = ap (λ z. if_intact a (literal false z) ++ (if_intact b (literal true z) ++ literals_of fs xs)) (same found)
  where
    same : Some y ≡ Some x → y ≡ x
    same e = cc
walk (a ∷ b ∷ fs) (y ∷ xs) zero (suc k) x twice long found = absurd (omega arith)
walk (a ∷ b ∷ fs) (y ∷ xs) (suc p) zero x twice long found = absurd (omega arith)
walk (a ∷ b ∷ fs) (y ∷ xs) (suc p) (suc zero) x twice long found = absurd (omega arith)
walk (a ∷ b ∷ fs) (y ∷ xs) (suc p) (suc (suc k)) x twice long found = walk fs xs p k x (omega arith) (omega arith) found

-- past the last pair there aren't any
walk_end : (fs : List Bool) (xs : List Carry) (p : ℕ) → length xs ≤ p → literals_of fs (drop p xs) ≡ []
walk_end fs [] zero past = no_pair fs
  where
    no_pair : (fs : List Bool) → literals_of fs [] ≡ []
    no_pair [] = refl
    no_pair (a ∷ []) = refl
    no_pair (a ∷ b ∷ fs) = refl
walk_end fs [] (suc p) past = no_pair fs
  where
    no_pair : (fs : List Bool) → literals_of fs [] ≡ []
    no_pair [] = refl
    no_pair (a ∷ []) = refl
    no_pair (a ∷ b ∷ fs) = refl
walk_end fs (x ∷ xs) zero past = absurd (omega arith)
walk_end fs (x ∷ xs) (suc p) past = walk_end fs xs p (omega arith)

-- from a pair on, they are its own and those of the pairs after it
module _ (fs : List Bool) (xs : List Carry) (long : length fs ≡ 2 * length xs) where
  pub pair_more : (p : ℕ) → p < length xs → literals_of (drop (2 * p) fs) (drop p xs) ≡ literals_at fs p (slice_get xs p) ++ literals_of (drop (2 * (p + 1)) fs) (drop (p + 1) xs)
  pair_more p within =
      let x : Carry = get_or xs p (carry.Pin 0) in
      let found : slice_get xs p ≡ Some x = slice_get-get_or xs p (carry.Pin 0) within in
      rw (found, two_more p, add-one p, add-one (2 * p)) (
      walk fs xs p (2 * p) x refl long found
      ∙ sym (append_assoc (if_intact (is_on fs (2 * p)) (literal false x)) (if_intact (is_on fs (suc (2 * p))) (literal true x)) (literals_of (drop (suc (suc (2 * p))) fs) (drop (suc p) xs))))
    where
      two_more : (p : ℕ) → 2 * (p + 1) ≡ suc (suc (2 * p))
      two_more p = omega arith

  pub pairs_end : (p : ℕ) → length xs ≤ p → literals_of (drop (2 * p) fs) (drop p xs) ≡ []
  pairs_end p past = walk_end (drop (2 * p) fs) xs p past

  -- what is shown of them so far, and what is shown of a pair
  module _ {A : Type 0} (show : ColumnLiteral → A) (whole : List A) where
    pub shown_more : (p : ℕ) (before after : List A) → p < length xs → whole ≡ before ++ map show (literals_of (drop (2 * p) fs) (drop p xs))
        → after ≡ before ++ map show (literals_at fs p (slice_get xs p)) → whole ≡ after ++ map show (literals_of (drop (2 * (p + 1)) fs) (drop (p + 1) xs))
    shown_more p before after within so grown =
        let own : List ColumnLiteral = literals_at fs p (slice_get xs p) in
        let later : List ColumnLiteral = literals_of (drop (2 * (p + 1)) fs) (drop (p + 1) xs) in
        so
        ∙ ap (λ ls. before ++ map show ls) (pair_more p within)
        ∙ ap (λ ys. before ++ ys) (map-append show own later)
        ∙ sym (append_assoc before (map show own) (map show later))
        ∙ ap (λ ys. ys ++ map show later) (sym grown)

    pub shown_all : (p : ℕ) (items : List A) → length xs ≤ p → whole ≡ items ++ map show (literals_of (drop (2 * p) fs) (drop p xs)) → whole ≡ items
    shown_all p items past so = so ∙ ap (λ ls. items ++ map show ls) (pairs_end p past) ∙ append-nil items
