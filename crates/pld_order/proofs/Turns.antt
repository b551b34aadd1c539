-- A loop begun with another of its vertices.
use Rattle.std.proofs.Common.{◌≡◌, ℕ, ◌<◌, Bool, eqb, List, [], ◌∷◌, ◌++◌, length, take, drop, get_or, ap, sym, ◌∙◌, subst, arith, length-drop}
use Rattle.pld_order.proofs.Common.{append-nil, length-append, take-append-drop, IsPermutation-append_comm, list_any-IsPermutation, IsDistinct-IsPermutation, has, IsChain, IsLoop}
use Rattle.std.specs.List.Sorted.{IsPermutation}
use Rattle.pld_order.proofs.Lists.{eqb_flips}

-- the two parts of a chain are chains, and two that meet are one
chain_front : (reads : ℕ → ℕ → Bool) (xs ys : List ℕ) (end : ℕ) → IsChain reads (xs ++ ys) end → IsChain reads xs (get_or ys 0 end)
chain_front reads [] ys end chain = tt
chain_front reads (x ∷ []) ys end chain = (chain.0, tt)
chain_front reads (x ∷ y ∷ xs) ys end chain = (chain.0, chain_front reads (y ∷ xs) ys end chain.1)

chain_back : (reads : ℕ → ℕ → Bool) (xs ys : List ℕ) (end : ℕ) → IsChain reads (xs ++ ys) end → IsChain reads ys end
chain_back reads [] ys end chain = chain
chain_back reads (x ∷ xs) ys end chain = chain_back reads xs ys end chain.1

chain_append : (reads : ℕ → ℕ → Bool) (xs ys : List ℕ) (end : ℕ) → IsChain reads xs (get_or ys 0 end) → IsChain reads ys end → IsChain reads (xs ++ ys) end
chain_append reads [] ys end front back = back
chain_append reads (x ∷ []) ys end front back = (front.0, back)
chain_append reads (x ∷ y ∷ xs) ys end front back = (front.0, chain_append reads (y ∷ xs) ys end front.1 back)

chain_turn : (reads : ℕ → ℕ → Bool) (xs ys : List ℕ) → IsChain reads (xs ++ ys) (get_or (xs ++ ys) 0 0) → IsChain reads (ys ++ xs) (get_or (ys ++ xs) 0 0)
chain_turn reads [] ys chain = subst (λ zs. IsChain reads zs (get_or zs 0 0)) (sym (append-nil ys)) chain
chain_turn reads (x ∷ xs) [] chain = subst (λ zs. IsChain reads zs (get_or zs 0 0)) (append-nil (x ∷ xs)) chain
chain_turn reads (x ∷ xs) (y ∷ ys) chain = chain_append reads (y ∷ ys) (x ∷ xs) y (chain_back reads (x ∷ xs) (y ∷ ys) x chain) (chain_front reads (x ∷ xs) (y ∷ ys) x chain)

turn_moves : (xs : List ℕ) (from : ℕ) → IsPermutation xs (drop from xs ++ take from xs)
turn_moves xs from = subst (λ zs. IsPermutation zs (drop from xs ++ take from xs)) (take-append-drop from xs) (IsPermutation-append_comm (take from xs) (drop from xs))

pub has_turn : (xs : List ℕ) (from v : ℕ) → has xs v ≡ has (drop from xs ++ take from xs) v
has_turn xs from v = list_any-IsPermutation (λ x. eqb v x) xs (drop from xs ++ take from xs) (turn_moves xs from)

pub loop_turn : (count : ℕ) (reads : ℕ → ℕ → Bool) (chain : List ℕ) (from : ℕ) → from < length chain → IsLoop count reads chain → IsLoop count reads (drop from chain ++ take from chain)
loop_turn count reads chain from within is = record {
  some = λ e. omega (arith, within, length-drop from chain, length-append (drop from chain) (take from chain), ap length e);
  inside = λ v found. is.inside v (has_turn chain from v ∙ found);
  once = IsDistinct-IsPermutation eqb eqb_flips chain (drop from chain ++ take from chain) (turn_moves chain from) is.once;
  returns = chain_turn reads (take from chain) (drop from chain) (subst (λ zs. IsChain reads zs (get_or zs 0 0)) (sym (take-append-drop from chain)) is.returns);
}
