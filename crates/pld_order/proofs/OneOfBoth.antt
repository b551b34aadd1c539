-- A graph has an order or a loop, and never both.
use Rattle.std.proofs.Common.{◌≡◌, ◌⊎◌, ℕ, zero, suc, ◌+◌, ◌<◌, ◌≤◌, Bool, true, false, eqb, List, [], ◌∷◌, ◌++◌, length, drop, get_or, refl, sym, ◌∙◌, ap, subst, arith, inl, inr, eqb-true, not, ◌&&◌}
use Rattle.pld_order.proofs.Common.{cases_Bool, cases_lt, true≢false, or_cases, or_left, or_right, and_parts, and_cases, not-false, not-true, length_push, has, IsChain, IsLoop, IsOrder, HasOrder, HasLoop, IsOrderSoFar, IsReady, IsStuck, WaitsForOther}
use Rattle.pld_order.proofs.Lists.{eqb_same, place_of}
use Rattle.pld_order.proofs.Walks.{IsWalk, walk_none, walk_more, walk_short, loop_at}
use Rattle.pld_order.proofs.Orders.{order_none, order_more, order_short, order_of_all}

-- each of a chain reads one of it, or the end
abbrev Next : (ℕ → ℕ → Bool) → List ℕ → ℕ → ℕ → Type 0
Next reads xs end x = (y : ℕ) × (reads x y ≡ true) × ((has xs y ≡ true) ⊎ (y ≡ end))

next_of : (reads : ℕ → ℕ → Bool) (xs : List ℕ) (end x : ℕ) → IsChain reads xs end → has xs x ≡ true → Next reads xs end x
next_of reads [] end x chain found = absurd (true≢false (sym found))
next_of reads (v ∷ []) end x chain found =
    elim (or_cases (eqb x v) false found) [
      | inl same ↦ (end, subst (λ a. reads a end ≡ true) (sym (eqb-true x v same)) chain.0, inr refl)
      | inr never ↦ absurd (true≢false (sym never))
    ]
next_of reads (v ∷ w ∷ ws) end x chain found =
    elim (or_cases (eqb x v) (has (w ∷ ws) x) found) [
      | inl same ↦ (w, subst (λ a. reads a w ≡ true) (sym (eqb-true x v same)) chain.0, inl (or_right (eqb w v) (has (w ∷ ws) w) (or_left (eqb w w) (has ws w) (eqb_same w))))
      | inr later ↦
          let next = next_of reads (w ∷ ws) end x chain.1 later in
          (next.0, next.1, elim next.2 [ inl in_ws ↦ inl (or_right (eqb next.0 v) (has (w ∷ ws) next.0) in_ws) | inr same ↦ inr same ])
    ]

-- each of a loop reads one of it
loop_next : (count : ℕ) (reads : ℕ → ℕ → Bool) (chain : List ℕ) (x : ℕ) → IsLoop count reads chain → has chain x ≡ true → (y : ℕ) × (reads x y ≡ true) × (has chain y ≡ true)
loop_next count reads [] x is found = absurd (true≢false (sym found))
loop_next count reads (c ∷ cs) x is found =
    let next = next_of reads (c ∷ cs) c x is.returns found in
    (next.0, next.1, elim next.2 [ inl there ↦ there | inr same ↦ subst (λ y. has (c ∷ cs) y ≡ true) (sym same) (or_left (eqb c c) (has cs c) (eqb_same c)) ])

-- none of the first vertices of an order is in a loop
none_before : (count : ℕ) (reads : ℕ → ℕ → Bool) (order chain : List ℕ) → IsOrder count reads order → IsLoop count reads chain → (i k : ℕ) → i ≤ length order → k < i → has chain (get_or order k 0) ≡ true → ⊥
none_before count reads order chain ordered is zero k low below found = absurd (omega (arith, below))
none_before count reads order chain ordered is (suc i) k low below found =
    let next = loop_next count reads chain (get_or order k 0) is found in
    let there = place_of order next.0 (ordered.each next.0 (is.inside next.0 next.2)) in
    elim (cases_lt there.0 k) [
      | inl less ↦ none_before count reads order chain ordered is i there.0 (omega (arith, low)) (omega (arith, less, below)) (subst (λ y. has chain y ≡ true) (sym there.2) next.2)
      | inr more ↦ absurd (true≢false (sym next.1 ∙ (sym (ap (reads (get_or order k 0)) there.2) ∙ ordered.earlier k there.0 more there.1)))
    ]

pub not_both : (count : ℕ) (reads : ℕ → ℕ → Bool) (order chain : List ℕ) → IsOrder count reads order → IsLoop count reads chain → ⊥
not_both count reads order [] ordered is = absurd (is.some refl)
not_both count reads order (c ∷ cs) ordered is =
    let here : has (c ∷ cs) c ≡ true = or_left (eqb c c) (has cs c) (eqb_same c) in
    let there = place_of order c (ordered.each c (is.inside c here)) in
    none_before count reads order (c ∷ cs) ordered is (length order) there.0 (omega arith) there.1 (subst (λ y. has (c ∷ cs) y ≡ true) (sym there.2) here)

-- a number below n that passes a test, or there isn't one
pub search_below : (test : ℕ → Bool) (n : ℕ) → ((v : ℕ) × (v < n) × (test v ≡ true)) ⊎ ((v : ℕ) → v < n → test v ≡ false)
search_below test zero = inr (λ v low. absurd (omega (arith, low)))
search_below test (suc n) =
    elim (cases_Bool (test n)) [
      | inl passes ↦ inl (n, omega arith, passes)
      | inr fails ↦ elim (search_below test n) [
        | inl there ↦ inl (there.0, omega (arith, there.1), there.2)
        | inr none ↦ inr (λ v low. elim (cases_lt v n) [ inl less ↦ none v less | inr more ↦ (let last : v ≡ n = omega (arith, low, more) in subst (λ k. test k ≡ false) (sym last) fails) ])
      ]
    ]

-- v reads one that isn't done, or all that it reads is done
unmet_or_met : (count : ℕ) (reads : ℕ → ℕ → Bool) (done : List ℕ) (v : ℕ) → WaitsForOther count reads done v ⊎ ((w : ℕ) → w < count → reads v w ≡ true → has done w ≡ true)
unmet_or_met count reads done v =
    elim (search_below (λ w. reads v w && not (has done w)) count) [
      | inl there ↦ let both = and_parts (reads v there.0) (not (has done there.0)) there.2 in inl (there.0, there.1, both.0, not-true (has done there.0) both.1)
      | inr none ↦ inr (λ w low reads_w. elim (and_cases (reads v w) (not (has done w)) (none w low)) [ inl never ↦ absurd (true≢false (sym reads_w ∙ never)) | inr done_w ↦ not-false (has done w) done_w ])
    ]

-- one of the first n that is ready, or each of them that isn't done waits for another
ready_or_stuck : (count : ℕ) (reads : ℕ → ℕ → Bool) (done : List ℕ) (n : ℕ) → n ≤ count → ((v : ℕ) × IsReady count reads done v) ⊎ ((v : ℕ) → v < n → has done v ≡ false → WaitsForOther count reads done v)
ready_or_stuck count reads done zero low = inr (λ v below. absurd (omega (arith, below)))
ready_or_stuck count reads done (suc n) low =
    elim (ready_or_stuck count reads done n (omega (arith, low))) [
      | inl there ↦ inl there
      | inr stuck ↦ elim (cases_Bool (has done n)) [
        | inl is_done ↦ inr (λ v below waits. elim (cases_lt v n) [ inl less ↦ stuck v less waits | inr more ↦ (let last : v ≡ n = omega (arith, below, more) in absurd (true≢false (sym is_done ∙ (ap (has done) (sym last) ∙ waits)))) ])
        | inr waits ↦ elim (unmet_or_met count reads done n) [
          | inr met ↦ inl (n, record { inside = omega (arith, low); waits = waits; met = met })
          | inl other ↦ inr (λ v below v_waits. elim (cases_lt v n) [ inl less ↦ stuck v less v_waits | inr more ↦ (let last : v ≡ n = omega (arith, below, more) in subst (λ k. WaitsForOther count reads done k) (sym last) other) ])
        ]
      ]
    ]

-- the loop of a walk that has returned
returned : (count : ℕ) (reads : ℕ → ℕ → Bool) (done path : List ℕ) (v : ℕ) → IsWalk count reads done path v → has path v ≡ true → HasLoop count reads
returned count reads done path v walk back =
    let there = place_of path v back in
    (drop there.0 path, loop_at count reads path there.0 v there.1 there.2 walk.inside walk.once walk.leads)

-- a walk among waiting vertices returns before `fuel` steps more
walk_returns : (fuel count : ℕ) (reads : ℕ → ℕ → Bool) (done path : List ℕ) (v : ℕ) → IsStuck count reads done → IsWalk count reads done path v → count ≤ fuel + length path → HasLoop count reads
walk_returns zero count reads done path v stuck walk enough =
    elim (cases_Bool (has path v)) [
      | inl back ↦ returned count reads done path v walk back
      | inr new ↦ absurd (omega (arith, enough, walk_short count reads done path v walk new))
    ]
walk_returns (suc fuel) count reads done path v stuck walk enough =
    elim (cases_Bool (has path v)) [
      | inl back ↦ returned count reads done path v walk back
      | inr new ↦
          let next = stuck v walk.here walk.waits in
          walk_returns fuel count reads done (path ++ v ∷ []) next.0 stuck (walk_more count reads done path v next.0 walk new next.1 next.2 next.3) (omega (arith, enough, length_push path v))
    ]

-- if none is ready and one waits, there is a loop
loop_of_waiting : (count : ℕ) (reads : ℕ → ℕ → Bool) (order : List ℕ) (v : ℕ) → IsStuck count reads order → v < count → not (has order v) ≡ true → HasLoop count reads
loop_of_waiting count reads order v stuck low waits = walk_returns count count reads order [] v stuck (walk_none count reads order v low (not-true (has order v) waits)) (omega arith)

pub stuck_loop : (count : ℕ) (reads : ℕ → ℕ → Bool) (order : List ℕ) → IsStuck count reads order → (((v : ℕ) → v < count → has order v ≡ true) → ⊥) → HasLoop count reads
stuck_loop count reads order stuck some =
    elim (search_below (λ v. not (has order v)) count) [
      | inl there ↦ loop_of_waiting count reads order there.0 stuck there.1 there.2
      | inr none ↦ absurd (some (λ v low. not-false (has order v) (none v low)))
    ]

-- if none is ready: the order of all, or a loop
ended : (count : ℕ) (reads : ℕ → ℕ → Bool) (order : List ℕ) → IsOrderSoFar count reads order → IsStuck count reads order → HasOrder count reads ⊎ HasLoop count reads
ended count reads order so_far stuck =
    elim (search_below (λ v. not (has order v)) count) [
      | inl there ↦ inr (loop_of_waiting count reads order there.0 stuck there.1 there.2)
      | inr none ↦ inl (order, order_of_all count reads order so_far (λ v low. not-false (has order v) (none v low)))
    ]

-- an order so far is made an order of all in `fuel` steps more, or there is a loop
grows : (fuel count : ℕ) (reads : ℕ → ℕ → Bool) (order : List ℕ) → IsOrderSoFar count reads order → count ≤ fuel + length order → HasOrder count reads ⊎ HasLoop count reads
grows zero count reads order so_far enough =
    elim (ready_or_stuck count reads order count (omega arith)) [
      | inl ready ↦ absurd (omega (arith, enough, order_short count reads order ready.0 so_far ready.1))
      | inr stuck ↦ ended count reads order so_far stuck
    ]
grows (suc fuel) count reads order so_far enough =
    elim (ready_or_stuck count reads order count (omega arith)) [
      | inl ready ↦ grows fuel count reads (order ++ ready.0 ∷ []) (order_more count reads order ready.0 so_far ready.1) (omega (arith, enough, length_push order ready.0))
      | inr stuck ↦ ended count reads order so_far stuck
    ]

pub one_or_other : (count : ℕ) (reads : ℕ → ℕ → Bool) → HasOrder count reads ⊎ HasLoop count reads
one_or_other count reads = grows count count reads [] (order_none count reads) (omega arith)
