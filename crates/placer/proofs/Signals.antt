-- The mark of one signal.
use Rattle.std.proofs.Common.{◌≡◌, ◌≢◌, ℕ, ◌+◌, ◌<◌, ◌≤◌, ◌==◌, Bool, true, false, ◌||◌, List, [], ◌∷◌, length, get_or, set, refl, sym, ap, subst, ◌∙◌, arith, get_or-set_same, get_or-set_other, inl, inr}
use Rattle.placer.proofs.Common.{cases_eq, bits, is_on, is_on-zero, length-bits, HasMark}

-- the places so far are marked if they are the number's, and no later one is
pub record IsMarkedTo (signals : List ℕ) (number place mark : ℕ) : Type 0 where
  pub met : (k : ℕ) → k < length signals → k < place → is_on (bits 32 mark) k ≡ (number == get_or signals k 0)
  pub rest : (k : ℕ) → k < 32 → place ≤ k → is_on (bits 32 mark) k ≡ false

module _ (signals : List ℕ) (small : length signals ≤ 32) (number : ℕ) where
  pub none_met : IsMarkedTo signals number 0 0
  none_met = record {
    met = λ k low before. absurd (omega (arith, before));
    rest = λ k low after. is_on-zero 32 k low;
  }

  -- the place is another number's
  pub other_met : (place mark : ℕ) → (number == get_or signals place 0) ≡ false → place < length signals → IsMarkedTo signals number place mark → IsMarkedTo signals number (place + 1) mark
  other_met place mark other here so = record {
    met = λ k low before. elim (cases_eq k place) [
      | inl same ↦ ap (is_on (bits 32 mark)) same ∙ (so.rest place (omega (arith, small, here)) (omega arith) ∙ (sym other ∙ ap (λ i. number == get_or signals i 0) (sym same)))
      | inr apart ↦ so.met k low (omega (arith, before, apart))
    ];
    rest = λ k low after. so.rest k low (omega (arith, after));
  }

  -- it is the number's
  pub this_met : (place mark marked : ℕ) → bits 32 marked ≡ set (bits 32 mark) place true → (number == get_or signals place 0) ≡ true → place < length signals → IsMarkedTo signals number place mark → IsMarkedTo signals number (place + 1) marked
  this_met place mark marked is this here so = record {
    met = λ k low before. elim (cases_eq k place) [
      | inl same ↦ ap (is_on (bits 32 marked)) same ∙ (ap (λ l. is_on l place) is ∙ (get_or-set_same (bits 32 mark) place true false long ∙ (sym this ∙ ap (λ i. number == get_or signals i 0) (sym same))))
      | inr apart ↦ kept k apart ∙ so.met k low (omega (arith, before, apart))
    ];
    rest = λ k low after. kept k (λ same. absurd (omega (arith, after, same))) ∙ so.rest k low (omega (arith, after));
  }
    where
      long : place < length (bits 32 mark)
      long = subst (λ n. place < n) (sym (length-bits 32 mark)) (omega (arith, small, here))

      kept : (k : ℕ) → k ≢ place → is_on (bits 32 marked) k ≡ is_on (bits 32 mark) k
      kept k apart = ap (λ l. is_on l k) is ∙ get_or-set_other (bits 32 mark) place k true false apart

  pub all_met : (place mark : ℕ) → length signals ≤ place → IsMarkedTo signals number place mark → HasMark signals (number ∷ []) mark
  all_met place mark past so k low = so.met k low (omega (arith, low, past)) ∙ or_false (number == get_or signals k 0)
    where
      or_false : (b : Bool) → b ≡ (b || false)
      or_false true = refl
      or_false false = refl
