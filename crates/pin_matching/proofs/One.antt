-- One assignment is taken, and one set is kept.
use Rattle.std.proofs.Common.{◌≡◌, ◌⊎◌, ℕ, zero, suc, ◌<◌, ◌≤◌, true, eqb, List, [], ◌∷◌, length, get_or, take, refl, ap, sym, ◌∙◌, subst, arith, inl, inr, eqb-true, ne_eqb, add-one}
use Rattle.pin_matching.proofs.Common.{IsStrictlySortedBy, true≢false, cases_eq, cases_lt, or_cases, or_left, or_right, take_more_same, ext_get_or, sorted_from_strictly_increasing, below_from_sorted, sorted_tail, has, wish_of, stands_before, IsAssignment, CannotPlace, IsTaken, IsKept, IsFirstUnplaced, IsCrowded, places, eqb_same, place_of}
use Rattle.std.specs.Ordering.{nat_cmp}
use Rattle.pin_matching.proofs.Narrowed.{front}

-- of two numbers that a list has, one precedes the other
one_before : (xs : List ℕ) (a b : ℕ) → has xs a ≡ true → has xs b ≡ true → (a ≡ b → ⊥) → (stands_before xs a b ≡ true) ⊎ (stands_before xs b a ≡ true)
one_before [] a b a_in b_in apart = absurd (true≢false (sym a_in))
one_before (x ∷ xs) a b a_in b_in apart =
    elim (cases_eq x a) [
      | inl here ↦ inl (rw (ne_eqb x b (λ e. apart (sym here ∙ e))) (or_left (eqb a x) (stands_before xs a b) (subst (λ y. eqb a y ≡ true) (sym here) (eqb_same a))))
      | inr not_a ↦
          elim (cases_eq x b) [
            | inl here ↦ inr (rw (ne_eqb x a not_a) (or_left (eqb b x) (stands_before xs b a) (subst (λ y. eqb b y ≡ true) (sym here) (eqb_same b))))
            | inr not_b ↦
                elim (one_before xs a b (later a a_in not_a) (later b b_in not_b) apart) [
                  | inl first ↦ inl (rw (ne_eqb x b not_b) (or_right (eqb a x) (stands_before xs a b) first))
                  | inr second ↦ inr (rw (ne_eqb x a not_a) (or_right (eqb b x) (stands_before xs b a) second))
                ]
          ]
    ]
  where
    later : (v : ℕ) → has (x ∷ xs) v ≡ true → (x ≡ v → ⊥) → has xs v ≡ true
    later v found other = elim (or_cases (eqb v x) (has xs v) found) [ inl same ↦ absurd (other (sym (eqb-true v x same))) | inr there ↦ there ]

-- ---- one assignment

module _ (wishes : List (List ℕ)) (a b : List ℕ) (a_is : IsTaken wishes a) (b_is : IsTaken wishes b) where
  same_at : (s : ℕ) → s < length wishes → take s a ≡ take s b → get_or a s 0 ≡ get_or b s 0
  same_at s low same =
      elim (cases_eq (get_or a s 0) (get_or b s 0)) [
        | inl here ↦ here
        | inr apart ↦
            elim (one_before (wish_of wishes s) (get_or a s 0) (get_or b s 0) (a_is.is_assignment.fit s low) (b_is.is_assignment.fit s low) apart) [
              | inl first ↦ absurd (b_is.first s (get_or a s 0) low first a a_is.is_assignment same refl)
              | inr second ↦ absurd (a_is.first s (get_or b s 0) low second b b_is.is_assignment (sym same) refl)
            ]
      ]

  same_front : (n : ℕ) → n ≤ length wishes → take n a ≡ take n b
  same_front zero low = refl
  same_front (suc n) low =
      let before = same_front n (omega (arith, low)) in
      let a_long = a_is.is_assignment.each in
      let b_long = b_is.is_assignment.each in
      subst (λ k. take k a ≡ take k b) (add-one n)
      (take_more_same a b n 0 (omega (arith, low, a_long)) (omega (arith, low, b_long)) before (same_at n (omega (arith, low)) before))

  pub one_taken : a ≡ b
  one_taken =
      ext_get_or 0 a b (a_is.is_assignment.each ∙ sym b_is.is_assignment.each) (λ i low.
      let each = a_is.is_assignment.each in
      let i_in : i < length wishes = omega (arith, low, each) in
      same_at i i_in (same_front i (omega (arith, i_in))))

-- ---- one kept set

pub kept_cannot : (wishes : List (List ℕ)) (set : List ℕ) (count : ℕ) → IsKept wishes set count → CannotPlace wishes
kept_cannot wishes set count kept pins is = kept.first.with_it (take (suc kept.signal) pins) (front wishes pins (suc kept.signal) is)

take_front : {X : Type 0} (m n : ℕ) (xs : List X) → m ≤ n → take m (take n xs) ≡ take m xs
take_front zero n xs low = refl
take_front (suc m) zero xs low = absurd (omega (arith, low))
take_front (suc m) (suc n) [] low = refl
take_front (suc m) (suc n) (x ∷ xs) low = ap (λ ys. x ∷ ys) (take_front m n xs (omega (arith, low)))

-- the front of an assignment of a front
shorter : (wishes : List (List ℕ)) (pins : List ℕ) (m n : ℕ) → m ≤ n → IsAssignment (take n wishes) pins → IsAssignment (take m wishes) (take m pins)
shorter wishes pins m n low is = subst (λ ws. IsAssignment ws (take m pins)) (take_front m n wishes low) (front (take n wishes) pins m is)

same_first : (wishes : List (List ℕ)) (m n : ℕ) → IsFirstUnplaced wishes m → IsFirstUnplaced wishes n → m ≡ n
same_first wishes m n first second =
    elim (cases_lt m n) [
      | inl less ↦ absurd (first.with_it (take (suc m) second.before.0) (shorter wishes second.before.0 (suc m) n less second.before.1))
      | inr more ↦
          elim (cases_lt n m) [
            | inl less ↦ absurd (second.with_it (take (suc n) first.before.0) (shorter wishes first.before.0 (suc n) m less first.before.1))
            | inr le ↦ omega (arith, more, le)
          ]
    ]

-- numbers that rise are the same if each list has those of the other
rise_more : (x : ℕ) (xs : List ℕ) → IsStrictlySortedBy nat_cmp (x ∷ xs) → (s : ℕ) → has xs s ≡ true → x < s
rise_more x xs rising s there =
    let place = place_of xs s there in
    subst (λ y. x < y) place.2 (below_from_sorted (x ∷ xs) 0 (suc place.0) 0 rising (omega arith) (omega (arith, place.1)))

same_rising : (xs ys : List ℕ) → IsStrictlySortedBy nat_cmp xs → IsStrictlySortedBy nat_cmp ys → ((s : ℕ) → has xs s ≡ true → has ys s ≡ true) → ((s : ℕ) → has ys s ≡ true → has xs s ≡ true) → xs ≡ ys
same_rising [] [] x_rise y_rise to back = refl
same_rising [] (y ∷ ys) x_rise y_rise to back = absurd (true≢false (sym (back y (or_left (eqb y y) (has ys y) (eqb_same y)))))
same_rising (x ∷ xs) [] x_rise y_rise to back = absurd (true≢false (sym (to x (or_left (eqb x x) (has xs x) (eqb_same x)))))
same_rising (x ∷ xs) (y ∷ ys) x_rise y_rise to back = heads head (λ to' back'. same_rising xs ys (sorted_tail nat_cmp x xs x_rise) (sorted_tail nat_cmp y ys y_rise) to' back')
  where
    head : x ≡ y
    head =
        elim (or_cases (eqb x y) (has ys x) (to x (or_left (eqb x x) (has xs x) (eqb_same x)))) [
          | inl same ↦ eqb-true x y same
          | inr later ↦
              elim (or_cases (eqb y x) (has xs y) (back y (or_left (eqb y y) (has ys y) (eqb_same y)))) [
                | inl same ↦ sym (eqb-true y x same)
                | inr behind ↦ (
                    let up = rise_more y ys y_rise x later in
                    let down = rise_more x xs x_rise y behind in
                    absurd (omega (arith, up, down)))
              ]
        ]

    there : (s v : ℕ) (vs : List ℕ) → (s ≡ v → ⊥) → has (v ∷ vs) s ≡ true → has vs s ≡ true
    there s v vs other found = elim (or_cases (eqb s v) (has vs s) found) [ inl same ↦ absurd (other (eqb-true s v same)) | inr later ↦ later ]

    heads : x ≡ y → (((s : ℕ) → has xs s ≡ true → has ys s ≡ true) → ((s : ℕ) → has ys s ≡ true → has xs s ≡ true) → xs ≡ ys) → (x ∷ xs) ≡ (y ∷ ys)
    heads same tails =
        ap (λ z. z ∷ xs) same
        ∙ ap (λ zs. y ∷ zs) (tails
        (λ s in_xs. let up = rise_more x xs x_rise s in_xs in there s y ys (λ e. absurd (omega (arith, e, up, same))) (to s (or_right (eqb s x) (has xs s) in_xs)))
        (λ s in_ys. let up = rise_more y ys y_rise s in_ys in there s x xs (λ e. absurd (omega (arith, e, up, same))) (back s (or_right (eqb s y) (has ys s) in_ys))))

pub one_kept : (wishes : List (List ℕ)) (a b : List ℕ) (m n : ℕ) → IsKept wishes a m → IsKept wishes b n → (a ≡ b) × (m ≡ n)
one_kept wishes a b m n first second = (same, first.counted ∙ (ap (places wishes) same ∙ sym second.counted))
  where
    at : first.signal ≡ second.signal
    at = same_first wishes first.signal second.signal first.first second.first

    same : a ≡ b
    same =
        same_rising a b (sorted_from_strictly_increasing a first.rising) (sorted_from_strictly_increasing b second.rising)
        (λ s in_a. first.least.least b (subst (λ k. IsCrowded (take (suc k) wishes) b) (sym at) second.least.crowded) s in_a)
        (λ s in_b. second.least.least a (subst (λ k. IsCrowded (take (suc k) wishes) a) at first.least.crowded) s in_b)
