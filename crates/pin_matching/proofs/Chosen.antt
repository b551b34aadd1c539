-- The pin of one signal after another, and that the first assignment is made so.
use Rattle.std.proofs.Common.{◌≡◌, ℕ, zero, suc, ◌<◌, ◌≤◌, true, not, ◌||◌, eqb, List, [], ◌∷◌, ◌++◌, length, get_or, take, refl, ap, sym, ◌∙◌, subst, arith, inl, inr, eqb-true}
use Rattle.pin_matching.proofs.Common.{true≢false, cases_lt, and_parts, or_cases, length_push, length-take, get_or-take, get_or_append_left, get_or_push, take-append-le, ext_get_or, take-length, fits, wish_of, stands_before, IsAssignment, CanPlace, CannotPlace, IsTaken, AreBest, IsBest, narrowed, eqb_same, place_of}
use Rattle.pin_matching.proofs.Lists.{has_at}
use Rattle.pin_matching.proofs.Narrowed.{length_narrowed, fits_fixed, fits_later}

-- what precedes what a list has at a place
pub stands_at : (xs : List ℕ) (better k : ℕ) → k < length xs → stands_before xs better (get_or xs k 0) ≡ true → (j : ℕ) × (j < k) × (get_or xs j 0 ≡ better)
stands_at [] better k low found = absurd (true≢false (sym found))
stands_at (x ∷ xs) better zero low found = absurd (true≢false (sym (and_parts (not (eqb x x)) (eqb better x || stands_before xs better x) found).0 ∙ rw (eqb_same x) refl))
stands_at (x ∷ xs) better (suc k) low found =
    elim (or_cases (eqb better x) (stands_before xs better (get_or xs k 0)) (and_parts (not (eqb x (get_or xs k 0))) (eqb better x || stands_before xs better (get_or xs k 0)) found).1) [
      | inl here ↦ (0, omega arith, sym (eqb-true better x here))
      | inr later ↦ let there = stands_at xs better k (omega (arith, low)) later in (suc there.0, omega (arith, there.1), there.2)
    ]

module _ (wishes : List (List ℕ)) where
  -- an assignment that begins so is one of the narrowed wishes
  pub keeps : (fixed others : List ℕ) → length fixed ≤ length wishes → IsAssignment wishes others → ((s : ℕ) → s < length fixed → get_or others s 0 ≡ get_or fixed s 0) → IsAssignment (narrowed wishes fixed) others
  keeps fixed others within is same = record {
    each = is.each ∙ sym (length_narrowed wishes fixed within);
    fit = λ s low.
        elim (cases_lt s (length fixed)) [
          | inl less ↦ fits_fixed wishes fixed within s (get_or others s 0) less ∙ subst (λ p. eqb (get_or others s 0) p ≡ true) (same s less) (eqb_same (get_or others s 0))
          | inr more ↦ fits_later wishes fixed within s (get_or others s 0) more ∙ is.fit s (omega (arith, low, length_narrowed wishes fixed within))
        ];
    once = is.once;
  }

  -- one of the narrowed wishes begins so
  pub begins : (fixed others : List ℕ) → length fixed ≤ length wishes → IsAssignment (narrowed wishes fixed) others → (s : ℕ) → s < length fixed → get_or others s 0 ≡ get_or fixed s 0
  begins fixed others within is s low =
      eqb-true (get_or others s 0) (get_or fixed s 0) (sym (fits_fixed wishes fixed within s (get_or others s 0) low) ∙ is.fit s (omega (arith, low, within, length_narrowed wishes fixed within)))

  -- and is one of the wishes, where those pins fit
  pub widens : (fixed others : List ℕ) → length fixed ≤ length wishes → ((s : ℕ) → s < length fixed → fits wishes s (get_or fixed s 0) ≡ true) → IsAssignment (narrowed wishes fixed) others → IsAssignment wishes others
  widens fixed others within fit is = record {
    each = is.each ∙ length_narrowed wishes fixed within;
    fit = λ s low.
        elim (cases_lt s (length fixed)) [
          | inl less ↦ subst (λ p. fits wishes s p ≡ true) (sym (begins fixed others within is s less)) (fit s less)
          | inr more ↦ sym (fits_later wishes fixed within s (get_or others s 0) more) ∙ is.fit s (omega (arith, low, length_narrowed wishes fixed within))
        ];
    once = is.once;
  }

  -- ---- one signal more

  module _ (old : List ℕ) (more : length old < length wishes) where
    within : length old ≤ length wishes
    within = omega (arith, more)

    pub within_more : (p : ℕ) → length (old ++ p ∷ []) ≤ length wishes
    within_more p = omega (arith, more, length_push old p)

    -- an assignment that begins so gives the next signal some pin of its wish
    pub some_pin : CanPlace (narrowed wishes old) → (k : ℕ) × (k < length (wish_of wishes (length old))) × CanPlace (narrowed wishes (old ++ get_or (wish_of wishes (length old)) k 0 ∷ []))
    some_pin can = (
      place.0,
      place.1,
      (
        can.0,
        record {
          each = can.1.each ∙ (length_narrowed wishes old within ∙ sym (length_narrowed wishes (old ++ get_or (wish_of wishes (length old)) place.0 0 ∷ []) (within_more (get_or (wish_of wishes (length old)) place.0 0))));
          fit = λ s low. fit s (omega (arith, low, length_narrowed wishes (old ++ get_or (wish_of wishes (length old)) place.0 0 ∷ []) (within_more (get_or (wish_of wishes (length old)) place.0 0))));
          once = can.1.once;
        },
      ),
    )
      where
        pin : ℕ
        pin = get_or can.0 (length old) 0

        place : (k : ℕ) × (k < length (wish_of wishes (length old))) × (get_or (wish_of wishes (length old)) k 0 ≡ get_or can.0 (length old) 0)
        place = place_of (wish_of wishes (length old)) (get_or can.0 (length old) 0)
            (sym (fits_later wishes old within (length old) (get_or can.0 (length old) 0) (omega arith)) ∙ can.1.fit (length old) (omega (arith, more, length_narrowed wishes old within)))

        fit : (s : ℕ) → s < length wishes → fits (narrowed wishes (old ++ get_or (wish_of wishes (length old)) place.0 0 ∷ [])) s (get_or can.0 s 0) ≡ true
        fit s low =
            let new = get_or (wish_of wishes (length old)) place.0 0 in
            let more_in = within_more new in
            elim (cases_lt s (length old)) [
              | inl less ↦
                  fits_fixed wishes (old ++ new ∷ []) more_in s (get_or can.0 s 0) (omega (arith, less, length_push old new))
                  ∙ subst (λ p. eqb (get_or can.0 s 0) p ≡ true) (begins old can.0 within can.1 s less ∙ sym (get_or_append_left old (new ∷ []) 0 s less)) (eqb_same (get_or can.0 s 0))
              | inr past ↦
                  elim (cases_lt (length old) s) [
                    | inl after ↦
                        fits_later wishes (old ++ new ∷ []) more_in s (get_or can.0 s 0) (omega (arith, after, length_push old new))
                        ∙ (sym (fits_later wishes old within s (get_or can.0 s 0) past) ∙ can.1.fit s (omega (arith, low, length_narrowed wishes old within)))
                    | inr le ↦ (
                        let here : length old ≡ s = omega (arith, past, le) in
                        fits_fixed wishes (old ++ new ∷ []) more_in s (get_or can.0 s 0) (omega (arith, here, length_push old new))
                        ∙ subst (λ p. eqb (get_or can.0 s 0) p ≡ true) (ap (λ k. get_or can.0 k 0) (sym here) ∙ (sym place.2 ∙ sym (get_or_push old new 0 s here))) (eqb_same (get_or can.0 s 0)))
                  ]
            ]

    -- the first pin of the wish that will do
    pub is_best : (new : List ℕ) (k : ℕ) → k < length (wish_of wishes (length old)) → new ≡ old ++ get_or (wish_of wishes (length old)) k 0 ∷ [] → CanPlace (narrowed wishes new)
        → ((j : ℕ) → j < k → CannotPlace (narrowed wishes (old ++ get_or (wish_of wishes (length old)) j 0 ∷ []))) → IsBest wishes old new
    is_best new k low longer can none = record {
      pin = get_or (wish_of wishes (length old)) k 0;
      longer = longer;
      fit = has_at (wish_of wishes (length old)) k low;
      can = can;
      best = λ better stands.
          let there = stands_at (wish_of wishes (length old)) better k low stands in
          subst (λ p. CannotPlace (narrowed wishes (old ++ p ∷ []))) there.2 (none there.0 there.1);
    }

    pub best_more : (new : List ℕ) → AreBest wishes old → IsBest wishes old new → AreBest wishes new
    best_more new are is = subst (λ xs. AreBest wishes xs) (sym is.longer) (record { fit = fit; can = subst (λ xs. CanPlace (narrowed wishes xs)) is.longer is.can; best = best })
      where
        fit : (s : ℕ) → s < length (old ++ is.pin ∷ []) → fits wishes s (get_or (old ++ is.pin ∷ []) s 0) ≡ true
        fit s low =
            elim (cases_lt s (length old)) [
              | inl less ↦ rw (get_or_append_left old (is.pin ∷ []) 0 s less) (are.fit s less)
              | inr past ↦ (
                  let here : length old ≡ s = omega (arith, past, low, length_push old is.pin) in
                  rw (get_or_push old is.pin 0 s here) (subst (λ x. fits wishes x is.pin ≡ true) here is.fit))
            ]

        best : (s better : ℕ) → s < length (old ++ is.pin ∷ []) → stands_before (wish_of wishes s) better (get_or (old ++ is.pin ∷ []) s 0) ≡ true → CannotPlace (narrowed wishes (take s (old ++ is.pin ∷ []) ++ better ∷ []))
        best s better low stands =
            elim (cases_lt s (length old)) [
              | inl less ↦
                  rw (take-append-le s old (is.pin ∷ []) (omega (arith, less)))
                  (are.best s better less (subst (λ p. stands_before (wish_of wishes s) better p ≡ true) (get_or_append_left old (is.pin ∷ []) 0 s less) stands))
              | inr past ↦ (
                  let here : length old ≡ s = omega (arith, past, low, length_push old is.pin) in
                  subst (λ xs. CannotPlace (narrowed wishes (xs ++ better ∷ [])))
                  (sym (ap (λ n. take n (old ++ is.pin ∷ [])) (sym here) ∙ (take-append-le (length old) old (is.pin ∷ []) (omega arith) ∙ take-length old)))
                  (is.best better (subst (λ n. stands_before (wish_of wishes n) better is.pin ≡ true) (sym here) (subst (λ p. stands_before (wish_of wishes s) better p ≡ true) (get_or_push old is.pin 0 s here) stands))))
            ]

  -- ---- none, and all

  pub best_none : CanPlace wishes → AreBest wishes []
  best_none can = record {
    fit = λ s low. absurd (omega (arith, low));
    can = can;
    best = λ s better low stands. absurd (omega (arith, low));
  }

  pub taken_all : (pins : List ℕ) → length pins ≡ length wishes → AreBest wishes pins → IsTaken wishes pins
  taken_all pins all are = record {
    is_assignment = subst (λ xs. IsAssignment wishes xs) same (widens pins are.can.0 within_all are.fit are.can.1);
    first = λ s better low stands others is front here.
        are.best s better (omega (arith, low, all)) stands others (keeps (take s pins ++ better ∷ []) others (omega (arith, low, all, length_push (take s pins) better, length-take s pins)) is (at s better others low front here));
  }
    where
      within_all : length pins ≤ length wishes
      within_all = omega (arith, all)

      same : are.can.0 ≡ pins
      same = ext_get_or 0 are.can.0 pins (are.can.1.each ∙ (length_narrowed wishes pins within_all ∙ sym all)) (λ i low. begins pins are.can.0 within_all are.can.1 i (let each = are.can.1.each in omega (arith, low, each, all, length_narrowed wishes pins within_all)))

      at : (s better : ℕ) (others : List ℕ) → s < length wishes → take s others ≡ take s pins → get_or others s 0 ≡ better → (t : ℕ) → t < length (take s pins ++ better ∷ []) → get_or others t 0 ≡ get_or (take s pins ++ better ∷ []) t 0
      at s better others low front here t t_in =
          let long : length (take s pins) ≡ s = omega (arith, low, all, length-take s pins) in
          elim (cases_lt t s) [
            | inl less ↦
                sym (get_or-take s others t 0 less) ∙ (ap (λ xs. get_or xs t 0) front ∙ sym (get_or_append_left (take s pins) (better ∷ []) 0 t (omega (arith, less, long))))
            | inr past ↦ (
                let last : s ≡ t = omega (arith, past, t_in, long, length_push (take s pins) better) in
                ap (λ k. get_or others k 0) (sym last) ∙ (here ∙ sym (get_or_push (take s pins) better 0 t (long ∙ last))))
          ]
