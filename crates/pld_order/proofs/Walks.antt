-- Walks: the end to which a list of vertices leads, and the loop that one has made which returns.
use Rattle.std.proofs.Common.{◌≡◌, ℕ, zero, suc, ◌+◌, ◌<◌, ◌≤◌, Bool, true, false, eqb, List, [], ◌∷◌, ◌++◌, length, drop, get_or, ap, sym, ◌∙◌, subst, arith, add-zero, get_or-drop, length-drop}
use Rattle.pld_order.proofs.Common.{IsDistinct, true≢false, length_push, has, IsChain, IsLoop}
use Rattle.pld_order.proofs.Lists.{has_drop, few, inside_push, once_push, once_drop}

-- a walk goes on, and a later part of it
pub chain_push : (reads : ℕ → ℕ → Bool) (xs : List ℕ) (v w : ℕ) → IsChain reads xs v → reads v w ≡ true → IsChain reads (xs ++ v ∷ []) w
chain_push reads [] v w leads reads_w = (reads_w, tt)
chain_push reads (x ∷ []) v w leads reads_w = (leads.0, (reads_w, tt))
chain_push reads (x ∷ y ∷ ys) v w leads reads_w = (leads.0, chain_push reads (y ∷ ys) v w leads.1 reads_w)

pub chain_drop : (reads : ℕ → ℕ → Bool) (xs : List ℕ) (i v : ℕ) → IsChain reads xs v → IsChain reads (drop i xs) v
chain_drop reads xs zero v leads = leads
chain_drop reads [] (suc i) v leads = leads
chain_drop reads (x ∷ xs) (suc i) v leads = chain_drop reads xs i v leads.1

-- the walk that has returned to the vertex at i
pub loop_at : (count : ℕ) (reads : ℕ → ℕ → Bool) (path : List ℕ) (i v : ℕ) → i < length path → get_or path i 0 ≡ v → ((x : ℕ) → has path x ≡ true → x < count) → IsDistinct eqb path → IsChain reads path v → IsLoop count reads (drop i path)
loop_at count reads path i v within here inside once leads = record {
  some = λ e. no_length path i within (ap length e);
  inside = λ x found. inside x (has_drop path i x found);
  once = once_drop path i once;
  returns = subst (IsChain reads (drop i path)) (sym (get_or-drop i path 0 0 ∙ (ap (λ k. get_or path k 0) (add-zero i) ∙ here))) (chain_drop reads path i v leads);
}
  where
    no_length : (xs : List ℕ) (k : ℕ) → k < length xs → length (drop k xs) ≡ 0 → ⊥
    no_length xs k low none = omega (arith, length-drop k xs)

-- the start and the walk so far
pub record IsWalk (count : ℕ) (reads : ℕ → ℕ → Bool) (done path : List ℕ) (v : ℕ) : Type 0 where
  pub inside : (x : ℕ) → has path x ≡ true → x < count
  pub once : IsDistinct eqb path
  pub leads : IsChain reads path v
  pub here : v < count
  pub waits : has done v ≡ false

pub walk_more : (count : ℕ) (reads : ℕ → ℕ → Bool) (done path : List ℕ) (v w : ℕ) → IsWalk count reads done path v → has path v ≡ false → w < count → reads v w ≡ true → has done w ≡ false → IsWalk count reads done (path ++ v ∷ []) w
walk_more count reads done path v w walk new low reads_w waits = record {
  inside = inside_push path count v walk.inside walk.here;
  once = once_push path v walk.once new;
  leads = chain_push reads path v w walk.leads reads_w;
  here = low;
  waits = waits;
}

pub walk_short : (count : ℕ) (reads : ℕ → ℕ → Bool) (done path : List ℕ) (v : ℕ) → IsWalk count reads done path v → has path v ≡ false → length path + 1 ≤ count
walk_short count reads done path v walk new = subst (λ n. n ≤ count) (length_push path v) (few (path ++ v ∷ []) count (once_push path v walk.once new) (inside_push path count v walk.inside walk.here))

pub walk_none : (count : ℕ) (reads : ℕ → ℕ → Bool) (done : List ℕ) (v : ℕ) → v < count → has done v ≡ false → IsWalk count reads done [] v
unfolding IsDistinct
walk_none count reads done v low waits = record { inside = λ x found. absurd (true≢false (sym found)); once = tt; leads = tt; here = low; waits = waits }
