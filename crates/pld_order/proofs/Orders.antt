-- Orders of some of the vertices, made longer one by one, and what makes such a one an order of all.
use Rattle.std.proofs.Common.{◌≡◌, ℕ, ◌+◌, ◌<◌, ◌≤◌, Bool, true, false, eqb, List, [], ◌∷◌, ◌++◌, length, take, get_or, ap, sym, ◌∙◌, subst, arith, inl, inr}
use Rattle.pld_order.proofs.Common.{IsDistinct, cases_Bool, cases_lt, true≢false, length_push, get_or_push, take-append-le, take_at, get_or_append_left, get_or-take, length-take-le, list_any_at, apart_from_distinct, IsReady, IsOrderSoFar, has, IsOrder}
use Rattle.pld_order.proofs.Lists.{eqb_same, place_of, few, inside_push, once_push}

-- one vertex more in the order
pub order_none : (count : ℕ) (reads : ℕ → ℕ → Bool) → IsOrderSoFar count reads []
unfolding IsDistinct
order_none count reads = record { inside = λ v found. absurd (true≢false (sym found)); once = tt; behind = λ i w low. absurd (omega arith) }

pub order_more : (count : ℕ) (reads : ℕ → ℕ → Bool) (xs : List ℕ) (v : ℕ) → IsOrderSoFar count reads xs → IsReady count reads xs v → IsOrderSoFar count reads (xs ++ v ∷ [])
order_more count reads xs v so_far is = record {
  inside = inside_push xs count v so_far.inside is.inside;
  once = once_push xs v so_far.once is.waits;
  behind = behind;
}
  where
    behind : (i w : ℕ) → i < length (xs ++ v ∷ []) → w < count → reads (get_or (xs ++ v ∷ []) i 0) w ≡ true → has (take i (xs ++ v ∷ [])) w ≡ true
    behind i w low w_in reads_w =
        elim (cases_lt i (length xs)) [
          | inl less ↦ let short : i ≤ length xs = omega arith in rw take-append-le (so_far.behind i w less w_in (subst (λ x. reads x w ≡ true) (get_or_append_left xs (v ∷ []) 0 i less) reads_w))
          | inr more ↦
              let last : i ≡ length xs = omega (arith, length_push xs v) in
              subst (λ ys. has ys w ≡ true) (sym (take_at xs (v ∷ []) i (sym last))) (is.met w w_in (subst (λ x. reads x w ≡ true) (get_or_push xs v 0 i (sym last)) reads_w))
        ]

-- an order so far that has all vertices is an order
pub order_of_all : (count : ℕ) (reads : ℕ → ℕ → Bool) (order : List ℕ) → IsOrderSoFar count reads order → ((v : ℕ) → v < count → has order v ≡ true) → IsOrder count reads order
order_of_all count reads order so_far each = record {
  inside = so_far.inside;
  each = each;
  once = so_far.once;
  earlier = earlier;
}
  where
    never : (i j : ℕ) → i ≤ j → j < length order → reads (get_or order i 0) (get_or order j 0) ≡ true → ⊥
    never i j le low reads_j =
        let in_order : has order (get_or order j 0) ≡ true = list_any_at (λ x. eqb (get_or order j 0) x) order j 0 low (eqb_same (get_or order j 0)) in
        let behind : has (take i order) (get_or order j 0) ≡ true = so_far.behind i (get_or order j 0) (omega (arith, le, low)) (so_far.inside (get_or order j 0) in_order) reads_j in
        let there = place_of (take i order) (get_or order j 0) behind in
        let short : there.0 < i = omega (arith, there.1, length-take-le i order (omega (arith, le, low))) in
        let same : get_or order there.0 0 ≡ get_or order j 0 = sym (get_or-take i order there.0 0 short) ∙ there.2 in
        let apart : eqb (get_or order there.0 0) (get_or order j 0) ≡ false = apart_from_distinct eqb order there.0 j 0 so_far.once (omega (arith, short, le)) low in
        true≢false (sym (eqb_same (get_or order j 0)) ∙ (ap (λ x. eqb x (get_or order j 0)) (sym same) ∙ apart))

    earlier : (i j : ℕ) → i ≤ j → j < length order → reads (get_or order i 0) (get_or order j 0) ≡ false
    earlier i j le low = elim (cases_Bool (reads (get_or order i 0) (get_or order j 0))) [ inl reads_j ↦ absurd (never i j le low reads_j) | inr reads_none ↦ reads_none ]

pub order_short : (count : ℕ) (reads : ℕ → ℕ → Bool) (xs : List ℕ) (v : ℕ) → IsOrderSoFar count reads xs → IsReady count reads xs v → length xs + 1 ≤ count
order_short count reads xs v so_far is = subst (λ n. n ≤ count) (length_push xs v) (few (xs ++ v ∷ []) count (once_push xs v so_far.once is.waits) (inside_push xs count v so_far.inside is.inside))
