-- The signals that the next one reaches, one more at a time.
use Rattle.std.proofs.Common.{◌≡◌, ℕ, suc, ◌<◌, ◌≤◌, true, List, [], ◌∷◌, ◌++◌, length, get_or, refl, sym, ◌∙◌, subst, arith, inl, inr}
use Rattle.pin_matching.proofs.Common.{IsDistinct, true≢false, cases_lt, length_push, get_or_append_left, get_or_push, fits, AreLed, AreReached, LeadsOn, few, has_push, once_push}
use Rattle.pin_matching.proofs.Lists.{once_cons}

-- at first the next signal alone
pub reached_one : (wishes : List (List ℕ)) (pins : List ℕ) → AreReached wishes pins (length pins ∷ [])
unfolding IsDistinct
reached_one wishes pins = record {
  some = omega arith;
  first = refl;
  inside = λ s found. elim (has_push [] (length pins) s found) [ inl never ↦ absurd (true≢false (sym never)) | inr same ↦ omega (arith, same) ];
  once = once_cons (length pins) [] tt refl;
  led = λ i more _ low. absurd (omega (arith, more, low));
}

module _ (wishes : List (List ℕ)) (pins reached : List ℕ) (are : AreReached wishes pins reached) (next : ℕ) (on : LeadsOn wishes pins reached next) where
  pub reached_more : AreReached wishes pins (reached ++ next ∷ [])
  reached_more = record {
    some = omega (arith, length_push reached next);
    first = get_or_append_left reached (next ∷ []) 0 0 are.some ∙ are.first;
    inside = λ s found. elim (has_push reached next s found) [ inl before ↦ are.inside s before | inr same ↦ let low = on.placed in omega (arith, same, low) ];
    once = once_push reached next are.once on.new;
    led = led;
  }
    where
      back : (j v : ℕ) → j < length reached → fits wishes (get_or reached j 0) v ≡ true → fits wishes (get_or (reached ++ next ∷ []) j 0) v ≡ true
      back j v low fit = subst (λ s. fits wishes s v ≡ true) (sym (get_or_append_left reached (next ∷ []) 0 j low)) fit

      led : AreLed wishes pins (reached ++ next ∷ []) (length (reached ++ next ∷ []))
      led i more _ low =
          elim (cases_lt i (length reached)) [
            | inl less ↦ (
                let there = are.led i more (omega (arith, less)) less in
                (there.0, there.1, rw (get_or_append_left reached (next ∷ []) 0 i less) (back there.0 (get_or pins (get_or reached i 0) 0) (omega (arith, there.1, less)) there.2)))
            | inr past ↦ (
                let last : length reached ≡ i = omega (arith, low, past, length_push reached next) in
                let within = on.within in
                (on.from, omega (arith, within, last), rw (get_or_push reached next 0 i last) (back on.from (get_or pins next 0) on.within on.led)))
          ]

  -- there is room for one more
  pub reached_short : length reached ≤ length pins
  reached_short =
      let many = few (reached ++ next ∷ []) (suc (length pins)) reached_more.once (λ s found. let low = reached_more.inside s found in omega (arith, low)) in
      omega (arith, many, length_push reached next)
