-- If the next signal reaches no free pin, the signals that it reaches are the least crowded set.
use Rattle.std.proofs.Common.{◌≡◌, ℕ, zero, suc, ◌<◌, ◌≤◌, true, false, not, eqb, List, [], ◌∷◌, length, get_or, take, refl, ap, sym, ◌∙◌, subst, arith, inl, inr, eqb-true}
use Rattle.pin_matching.proofs.Common.{IsDistinct, distinct_count, IsPermutation, IsStrictlyIncreasing, true≢false, cases_Bool, cases_eq, or_cases, or_right, and_parts, length-take, list_any-IsPermutation, IsDistinct-tail, has, fits, places, IsCrowded, IsKept, AreReached, AreStuck, IsBegun, IsClosed, NoneIsFree, eqb_same, place_of}
use Rattle.pin_matching.proofs.Hall.{fitting, has_fitting, fits_member, member_fitted, places_le, le_places, full_places, same_fitting, same_places, pins_of, pins_once, length_pins_of, signal_of, has_pin_of, assigned_fit, not_crowded}
use Rattle.pin_matching.proofs.Lists.{has_at, head_out, same_place, without, has_without, once_without, length_without}
use Rattle.pin_matching.proofs.Narrowed.{wish_front, fits_front}

module _ (wishes : List (List ℕ)) (pins : List ℕ) (begun : IsBegun wishes pins) where
  -- the signals up to the next one
  abbrev upto : List (List ℕ)
  upto = take (suc (length pins)) wishes

  length_upto : length upto ≡ suc (length pins)
  length_upto = let more = begun.more in omega (arith, more, length-take (suc (length pins)) wishes)

  fits_upto : (s p : ℕ) → s ≤ length pins → fits upto s p ≡ fits wishes s p
  fits_upto s p low = fits_front wishes (suc (length pins)) s p (omega (arith, low))

  -- a placed signal's pin fits it
  placed_fit : (s : ℕ) → s < length pins → fits upto s (get_or pins s 0) ≡ true
  placed_fit s low =
      fits_upto s (get_or pins s 0) (omega (arith, low))
      ∙ (sym (fits_front wishes (length pins) s (get_or pins s 0) low) ∙ begun.placed.fit s (let each = begun.placed.each in omega (arith, each, low)))

  -- ---- the signals reached are crowded

  module _ (rest : List ℕ) (are : AreReached wishes pins (length pins ∷ rest)) where
    rest_below : (s : ℕ) → has rest s ≡ true → s < length pins
    rest_below s there =
        elim (cases_eq s (length pins)) [
          | inl same ↦ absurd (true≢false (sym (subst (λ x. has rest x ≡ true) same there) ∙ head_out (length pins) rest are.once))
          | inr other ↦ let low = are.inside s (or_right (eqb s (length pins)) (has rest s) there) in omega (arith, low, other)
        ]

    rest_once : IsDistinct eqb rest
    rest_once = IsDistinct-tail eqb (length pins) rest are.once

    -- the pins of the others fit them
    rest_fit : (p : ℕ) → has (pins_of pins rest) p ≡ true → has (fitting upto (length pins ∷ rest)) p ≡ true
    rest_fit = assigned_fit upto pins (length pins ∷ rest) rest (λ s there. or_right (eqb s (length pins)) (has rest s) there) (λ s there. placed_fit s (rest_below s there))

    pub rest_places : length rest ≤ places upto (length pins ∷ rest)
    rest_places =
        let long = le_places upto (length pins ∷ rest) (pins_of pins rest) (pins_once pins rest begun.placed.once rest_once rest_below) rest_fit in
        omega (arith, long, length_pins_of pins rest)

    -- and no other pins do
    pub few_places : IsClosed wishes pins (length pins ∷ rest) → NoneIsFree wishes pins (length pins ∷ rest) → places upto (length pins ∷ rest) ≤ length rest
    few_places closed none =
        let short = places_le upto (length pins ∷ rest) (pins_of pins rest) theirs in
        omega (arith, short, length_pins_of pins rest)
      where
        at : (k p : ℕ) → k < length (length pins ∷ rest) → fits upto (get_or (length pins ∷ rest) k 0) p ≡ true → has (pins_of pins rest) p ≡ true
        at k p low fit =
            let member = get_or (length pins ∷ rest) k 0 in
            let fit_w : fits wishes member p ≡ true = sym (fits_upto member p (are.inside member (has_at (length pins ∷ rest) k low))) ∙ fit in
            let place = place_of pins p (none k low p fit_w) in
            elim (cases_Bool (has (length pins ∷ rest) place.0)) [
              | inl there ↦ subst (λ q. has (pins_of pins rest) q ≡ true) place.2 (has_pin_of pins rest place.0 (in_rest place.0 place.1 there))
              | inr out ↦ absurd (true≢false (sym fit_w ∙ (ap (fits wishes member) (sym place.2) ∙ closed place.0 place.1 out k low)))
            ]
          where
            in_rest : (t : ℕ) → t < length pins → has (length pins ∷ rest) t ≡ true → has rest t ≡ true
            in_rest t low there =
                elim (or_cases (eqb t (length pins)) (has rest t) there) [
                  | inl same ↦ let e = eqb-true t (length pins) same in absurd (omega (arith, e, low))
                  | inr later ↦ later
                ]

        theirs : (p : ℕ) → has (fitting upto (length pins ∷ rest)) p ≡ true → has (pins_of pins rest) p ≡ true
        theirs p found =
            let there = member_fitted upto (length pins ∷ rest) p (sym (has_fitting upto (length pins ∷ rest) p) ∙ found) in
            at there.0 p there.1 there.2

  -- ---- they lie in every crowded set

  module _ (others : List ℕ) (crowded : IsCrowded upto others) where
    below : (s : ℕ) → has others s ≡ true → s ≤ length pins
    below s there = let low = crowded.inside s there in omega (arith, low, length_upto)

    -- the next signal does, since those before it can be placed
    pub next_in : has others (length pins) ≡ true
    next_in =
        elim (cases_Bool (has others (length pins))) [
          | inl there ↦ there
          | inr out ↦ absurd (not_crowded (take (length pins) wishes) pins others begun.placed (before out))
        ]
      where
        strict : has others (length pins) ≡ false → (s : ℕ) → has others s ≡ true → s < length pins
        strict out s there =
            elim (cases_eq s (length pins)) [
              | inl same ↦ absurd (true≢false (sym (subst (λ x. has others x ≡ true) same there) ∙ out))
              | inr other ↦ let low = below s there in omega (arith, low, other)
            ]

        same : has others (length pins) ≡ false → fitting (take (length pins) wishes) others ≡ fitting upto others
        same out = same_fitting (take (length pins) wishes) upto others (λ s there.
            let low = strict out s there in
            wish_front wishes (length pins) s low ∙ sym (wish_front wishes (suc (length pins)) s (omega (arith, low))))

        before : has others (length pins) ≡ false → IsCrowded (take (length pins) wishes) others
        before out = record {
          inside = λ s there. let low = strict out s there in let each = begun.placed.each in omega (arith, low, each);
          once = crowded.once;
          fewer = rw (same out) crowded.fewer;
        }

    -- its members except for the next signal
    abbrev placed : List ℕ
    placed = without (length pins) others

    -- every pin that fits it belongs to a member
    pub owned : (t : ℕ) → t < length pins → has (fitting upto others) (get_or pins t 0) ≡ true → has others t ≡ true
    owned t low found =
        let there = signal_of pins placed (get_or pins t 0) (full_places upto others (pins_of pins placed) (pins_once pins placed begun.placed.once (once_without others (length pins) crowded.once) placed_below) theirs long (get_or pins t 0) found) in
        subst (λ s. has others s ≡ true)
        (same_place pins there.0 t begun.placed.once (placed_below there.0 there.1) low there.2)
        (and_parts (has others there.0) (not (eqb there.0 (length pins))) (sym (has_without others (length pins) there.0) ∙ there.1)).0
      where
        placed_in : (s : ℕ) → has placed s ≡ true → has others s ≡ true
        placed_in s there = (and_parts (has others s) (not (eqb s (length pins))) (sym (has_without others (length pins) s) ∙ there)).0

        placed_below : (s : ℕ) → has placed s ≡ true → s < length pins
        placed_below s there =
            elim (cases_eq s (length pins)) [
              | inl same ↦ absurd (true≢false (sym (and_parts (has others s) (not (eqb s (length pins))) (sym (has_without others (length pins) s) ∙ there)).1 ∙ apart s same))
              | inr other ↦ let le = below s (placed_in s there) in omega (arith, le, other)
            ]
          where
            apart : (x : ℕ) → x ≡ length pins → not (eqb x (length pins)) ≡ false
            apart x same = rw (same, eqb_same (length pins)) refl

        theirs : (p : ℕ) → has (pins_of pins placed) p ≡ true → has (fitting upto others) p ≡ true
        theirs = assigned_fit upto pins others placed placed_in (λ s there. placed_fit s (placed_below s there))

        long : places upto others ≤ length (pins_of pins placed)
        long =
            let less = crowded.fewer in
            let left = length_without others (length pins) crowded.once in
            omega (arith, less, left, length_pins_of pins placed)

    -- all that it reaches
    pub all_in : (reached : List ℕ) → AreReached wishes pins reached → (bound i : ℕ) → i < bound → i < length reached → has others (get_or reached i 0) ≡ true
    all_in reached are zero i low i_in = absurd (omega arith)
    all_in reached are (suc bound) zero low i_in = subst (λ s. has others s ≡ true) (sym are.first) next_in
    all_in reached are (suc bound) (suc i) low i_in =
        let there = are.led (suc i) (omega arith) (omega (arith, i_in)) i_in in
        let from = all_in reached are bound there.0 (omega (arith, low, there.1)) (omega (arith, i_in, there.1)) in
        let member = get_or reached there.0 0 in
        let s = get_or reached (suc i) 0 in
        owned s placed_s (fits_member upto others member (get_or pins s 0) from (fits_upto member (get_or pins s 0) (below member from) ∙ there.2))
      where
        placed_s : get_or reached (suc i) 0 < length pins
        placed_s =
            elim (cases_eq (get_or reached (suc i) 0) (length pins)) [
              | inl same ↦ let e = same_place reached (suc i) 0 are.once i_in are.some (same ∙ sym are.first) in absurd (omega (arith, e))
              | inr other ↦ let le = are.inside (get_or reached (suc i) 0) (has_at reached (suc i) i_in) in omega (arith, le, other)
            ]

  -- ---- what is kept

  module _ (reached set : List ℕ) (stuck : AreStuck wishes pins reached) (same : IsPermutation reached set) (set_once : IsDistinct eqb set) (long : length set ≡ length reached) where
    same_has : (s : ℕ) → has set s ≡ has reached s
    same_has s = sym (list_any-IsPermutation (eqb s) reached set same)

    pub exact : suc (places upto reached) ≡ length reached
    exact = at reached stuck.are_reached stuck.closed stuck.none
      where
        at : (xs : List ℕ) → AreReached wishes pins xs → IsClosed wishes pins xs → NoneIsFree wishes pins xs → suc (places upto xs) ≡ length xs
        at [] are closed none = let some = are.some in absurd (omega (arith, some))
        at (x ∷ xs) are closed none =
            subst (λ y. suc (places upto (y ∷ xs)) ≡ suc (length xs)) (sym are.first)
            (let are' = subst (λ y. AreReached wishes pins (y ∷ xs)) are.first are in
            let more = rest_places xs are' in
            let less = few_places xs are' (subst (λ y. IsClosed wishes pins (y ∷ xs)) are.first closed) (subst (λ y. NoneIsFree wishes pins (y ∷ xs)) are.first none) in
            omega (arith, more, less))

    pub exact_set : suc (places upto set) ≡ length set
    exact_set = ap suc (same_places upto set reached (λ test. sym (list_any-IsPermutation test reached set same))) ∙ (exact ∙ sym long)

    set_crowded : IsCrowded upto set
    set_crowded = record {
      inside = λ s there. let low = stuck.are_reached.inside s (sym (same_has s) ∙ there) in omega (arith, low, length_upto);
      once = set_once;
      fewer = omega (arith, exact_set);
    }

    same_count : places wishes set ≡ places upto set
    same_count = ap (λ xs. distinct_count eqb xs) (same_fitting wishes upto set (λ s there.
        let low = stuck.are_reached.inside s (sym (same_has s) ∙ there) in
        sym (wish_front wishes (suc (length pins)) s (omega (arith, low)))))

    pub kept_is : IsStrictlyIncreasing set → (count : ℕ) → suc count ≡ length reached → IsKept wishes set count
    kept_is rising count counted = record {
      signal = length pins;
      first = record {
        inside = begun.more;
        before = (pins, begun.placed);
        with_it = λ p is. not_crowded upto p set is set_crowded;
      };
      least = record {
        crowded = set_crowded;
        least = λ others crowded s there.
            let place = place_of reached s (sym (same_has s) ∙ there) in
            subst (λ x. has others x ≡ true) place.2 (all_in others crowded reached stuck.are_reached (suc place.0) place.0 (omega arith) place.1);
      };
      rising = rising;
      counted = omega (arith, counted, exact_set, long, same_count);
    }
