-- What is found of the first 32 signals is found of all: a device has fewer pins.
use Rattle.std.proofs.Common.{◌≡◌, ℕ, zero, suc, ◌<◌, ◌≤◌, Bool, true, ◌&&◌, List, [], ◌∷◌, eqb, length, get_or, min, take, refl, ap, subst, ◌∙◌, arith}
use Rattle.placer.proofs.Common.{and_parts, get_or-map, length-map, length-take, take_all, Table, has, few, place_of, Entry, no_name, CanPlace, CannotPlace, IsAssignment, IsKept, IsLeastCrowded, wish_of, is_pin_free, pin_fits, preferred, to_place, wish, wishes}
use Rattle.std.specs.Set.{distinct_count}
use Rattle.pin_matching.proofs.Hall.{same_fitting}
use Rattle.pin_matching.proofs.Narrowed.{wish_front}
use Rattle.placer.proofs.FittingPins.{kept_passes}
use Rattle.placer.proofs.Free.{free_is_low}

take_twice : {A : Type 0} (k n : ℕ) (xs : List A) → k ≤ n → take k (take n xs) ≡ take k xs
take_twice zero n xs le = refl
take_twice (suc k) zero xs le = absurd (omega (arith, le))
take_twice (suc k) (suc n) [] le = refl
take_twice (suc k) (suc n) (x ∷ xs) le = ap (λ l. x ∷ l) (take_twice k n xs (omega (arith, le)))

module _ (ws : List (List ℕ)) where
  first_count : length (take 32 ws) ≡ min 32 (length ws)
  first_count = length-take 32 ws

  -- ---- what is kept

  -- members are signals among the first
  pub member_first : (set : List ℕ) (count : ℕ) → IsKept (take 32 ws) set count → (s : ℕ) → has set s ≡ true → s < 32
  member_first set count kept s there =
      let low = kept.least.crowded.inside s there in
      let cut = length-take (suc kept.signal) (take 32 ws) in
      let here = kept.first.inside in
      omega (arith, low, cut, here, first_count)

  pub kept_of_all : (set : List ℕ) (count : ℕ) → IsKept (take 32 ws) set count → IsKept ws set count
  kept_of_all set count kept = record {
    signal = kept.signal;
    first = record {
      inside = omega (arith, small, here, first_count);
      before = subst CanPlace (take_twice kept.signal 32 ws (omega (arith, small))) kept.first.before;
      with_it = subst CannotPlace (take_twice (suc kept.signal) 32 ws small) kept.first.with_it;
    };
    least = subst (λ w. IsLeastCrowded w set) (take_twice (suc kept.signal) 32 ws small) kept.least;
    rising = kept.rising;
    counted = kept.counted ∙ ap (distinct_count eqb) (same_fitting (take 32 ws) ws set (λ s there. wish_front ws 32 s (member_first set count kept s there)));
  }
    where
      here : kept.signal < length (take 32 ws)
      here = kept.first.inside

      small : suc kept.signal ≤ 32
      small = omega (arith, here, first_count)

-- ---- what is taken

module _ (t : Table) (es : List Entry) (read : ℕ → Bool) (high : t.pins ≤ 24) (pins : List ℕ) (is : IsAssignment (take 32 (wishes t es read)) pins) where
  -- each pin that is given is free
  given_low : (p : ℕ) → has pins p ≡ true → p < 24
  given_low p there =
      let place = place_of pins p there in
      let each = is.each in
      let low : place.0 < length (take 32 (wishes t es read)) = omega (arith, place.1, each) in
      let free = free_pin place.0 low in
      let pin_low = free_is_low t es (get_or pins place.0 0) free in
      let same = place.2 in
      omega (arith, pin_low, same, high)
    where
      free_pin : (k : ℕ) → k < length (take 32 (wishes t es read)) → is_pin_free t es (get_or pins k 0) ≡ true
      free_pin k low =
          let ss = to_place t es in
          let f = λ (s : ℕ). wish t es (read s) (get_or es s no_name) in
          let count = length-take 32 (wishes t es read) in
          let long = length-map ss f in
          let of : wish_of (take 32 (wishes t es read)) k ≡ f (get_or ss k 0) = wish_front (wishes t es read) 32 k (omega (arith, low, count)) ∙ get_or-map f ss k 0 [] (omega (arith, low, count, long)) in
          let x = get_or es (get_or ss k 0) no_name in
          (and_parts (is_pin_free t es (get_or pins k 0)) (pin_fits t (read (get_or ss k 0)) x (get_or pins k 0))
          (kept_passes (λ pin. is_pin_free t es pin && pin_fits t (read (get_or ss k 0)) x pin) (preferred t x.assigned) (get_or pins k 0)
          (subst (λ ps. has ps (get_or pins k 0) ≡ true) of (is.fit k low)))).0

  pub few_signals : length (to_place t es) ≤ 24
  few_signals =
      let most = few pins 24 is.once given_low in
      let each = is.each in
      let count = length-take 32 (wishes t es read) in
      let long = length-map (to_place t es) (λ s. wish t es (read s) (get_or es s no_name)) in
      omega (arith, most, each, count, long)

  pub all_taken : take 32 (wishes t es read) ≡ wishes t es read
  all_taken = take_all 32 (wishes t es read) (let small = few_signals in let long = length-map (to_place t es) (λ s. wish t es (read s) (get_or es s no_name)) in omega (arith, small, long))
