-- If there is no loop, each vertex has a rank above those that it reads; and if there are ranks, there is no loop.
use Rattle.std.proofs.Common.{◌≡◌, ◌≤◌, ℕ, suc, ◌<◌, Bool, true, false, ◌==◌, if◌then◌else◌, List, [], ◌∷◌, length, get_or, refl, sym, ◌∙◌, subst, arith, inl, inr}
use Rattle.pld_order.proofs.Common.{cases_Bool, cases_lt, eqb-true, or_cases, or_left, or_right, true≢false, has, IsChain, IsOrder, HasNoLoop}
use Rattle.pld_order.proofs.Lists.{eqb_same, few}
use Rattle.pld_order.proofs.OneOfBoth.{one_or_other}

-- ranks below a top one, at most as many as there are vertices, each above those of the vertices that are read
pub record Ranked (count : ℕ) (reads : ℕ → ℕ → Bool) : Type 0 where
  pub rank : ℕ → ℕ
  pub top : ℕ
  pub few : top ≤ count
  pub below : (v : ℕ) → v < count → rank v < top
  pub falls : (v w : ℕ) → v < count → w < count → reads v w ≡ true → rank w < rank v

-- the place of a number in a list, past its end if it isn't there
place_in : List ℕ → ℕ → ℕ
place_in [] v = 0
place_in (x ∷ xs) v = if v == x then 0 else suc (place_in xs v)

-- it is found there
record Found (xs : List ℕ) (v place : ℕ) : Type 0 where
  below : place < length xs
  is : get_or xs place 0 ≡ v

place_found : (xs : List ℕ) (v : ℕ) → has xs v ≡ true → Found xs v (place_in xs v)
unfolding place_in
place_found [] v there = absurd (true≢false (sym there))
place_found (x ∷ xs) v there =
    elim (cases_Bool (v == x)) [
      | inl here ↦ rw here (record { below = omega arith; is = sym (eqb-true v x here) })
      | inr other ↦ elim (or_cases (v == x) (has xs v) there) [
        | inl here ↦ absurd (true≢false (sym here ∙ other))
        | inr later ↦
            let rest = place_found xs v later in
            rw other (record { below = omega (arith, rest.below); is = rest.is })
      ]
    ]

module _ (count : ℕ) (reads : ℕ → ℕ → Bool) where
  by_order : (order : List ℕ) → IsOrder count reads order → Ranked count reads
  by_order order is = record {
    rank = place_in order;
    top = length order;
    few = few order count is.once is.inside;
    below = λ v v_in. (place_found order v (is.each v v_in)).below;
    falls = λ v w v_in w_in on.
        let first = place_found order v (is.each v v_in) in
        let second = place_found order w (is.each w w_in) in
        elim (cases_lt (place_in order w) (place_in order v)) [
          | inl less ↦ less
          | inr more ↦ absurd (true≢false (sym on ∙ (subst (λ x. reads x w ≡ false) first.is (subst (λ y. reads (get_or order (place_in order v) 0) y ≡ false) second.is (is.earlier (place_in order v) (place_in order w) more second.below)))))
        ];
  }

  pub ranked : HasNoLoop count reads → Ranked count reads
  ranked none = elim (one_or_other count reads) [ inl order ↦ by_order order.0 order.1 | inr chain ↦ absurd (none chain.0 chain.1) ]

  module _ (rank : ℕ → ℕ) (falls : (v w : ℕ) → v < count → w < count → reads v w ≡ true → rank w < rank v) where
    chain_falls : (v : ℕ) (rest : List ℕ) (end : ℕ) → ((x : ℕ) → has (v ∷ rest) x ≡ true → x < count) → end < count → IsChain reads (v ∷ rest) end → rank end < rank v
    chain_falls v [] end inside end_in chain = falls v end (inside v (or_left (v == v) false (eqb_same v))) end_in chain.0
    chain_falls v (w ∷ ws) end inside end_in chain =
        let first = falls v w (inside v (or_left (v == v) (has (w ∷ ws) v) (eqb_same v))) (inside w (or_right (w == v) (has (w ∷ ws) w) (or_left (w == w) (has ws w) (eqb_same w)))) chain.0 in
        let later = chain_falls w ws end (λ x there. inside x (or_right (x == v) (has (w ∷ ws) x) there)) end_in chain.1 in
        omega (arith, first, later)

    pub no_loop_by_rank : HasNoLoop count reads
    no_loop_by_rank [] is = is.some refl
    no_loop_by_rank (v ∷ rest) is =
        let falls_back = chain_falls v rest v is.inside (is.inside v (or_left (v == v) (has rest v) (eqb_same v))) is.returns in
        omega (arith, falls_back)
