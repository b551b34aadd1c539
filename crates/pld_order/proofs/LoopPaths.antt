-- A path from what a vertex reads back to it is a loop, and if there is no such path the vertex is on no loop.
use Rattle.std.proofs.Common.{◌≡◌, ℕ, ◌-◌, ◌<◌, Bool, true, eqb, List, [], ◌∷◌, ◌++◌, length, take, drop, get_or, refl, ap, sym, ◌∙◌, subst, arith, inl, inr, add-zero, get_or-drop, length-drop}
use Rattle.pld_order.proofs.Common.{IsDistinct, true≢false, false_from_ne_true, or_left, or_right, length_push, get_or_append_left, IsPermutation-append_comm, list_any-IsPermutation, IsDistinct-IsPermutation, has, IsChain, IsLoop, IsPath, HasNoPath, HasLoop, IsOnNoLoop}
use Rattle.std.proofs.Math.Seq.{take-append_seam, get_or-append_seam}
use Rattle.pld_order.proofs.Lists.{eqb_same, eqb_flips, has_push, place_of}
use Rattle.pld_order.proofs.Turns.{loop_turn}

module _ (count : ℕ) (reads : ℕ → ℕ → Bool) (v : ℕ) where
  -- the path turned so that its last is first
  turned : (before : List ℕ) → IsDistinct eqb (before ++ v ∷ []) → ((x : ℕ) → has (before ++ v ∷ []) x ≡ true → x < count) → IsChain reads before v → reads v (get_or (before ++ v ∷ []) 0 0) ≡ true → IsLoop count reads (v ∷ before)
  turned before once inside leads begins = record {
    some = λ e. cc;
    inside = λ x found. inside x (list_any-IsPermutation (λ y. eqb x y) (before ++ v ∷ []) (v ∷ before) (IsPermutation-append_comm before (v ∷ [])) ∙ found);
    once = IsDistinct-IsPermutation eqb eqb_flips (before ++ v ∷ []) (v ∷ before) (IsPermutation-append_comm before (v ∷ [])) once;
    returns = (first before begins, leads);
  }
    where
      first : (xs : List ℕ) → reads v (get_or (xs ++ v ∷ []) 0 0) ≡ true → reads v (get_or xs 0 v) ≡ true
      first [] on = on
      first (x ∷ xs) on = on

  pub loop_of : (ends : ℕ → Bool) (path : List ℕ) → ((x : ℕ) → ends x ≡ true → x ≡ v) → IsPath count reads (reads v) ends path → IsDistinct eqb path → IsLoop count reads (get_or path (length path - 1) 0 ∷ take (length path - 1) path)
  loop_of ends path only is once =
      let last : is.last ≡ v = only is.last is.arrives in
      let same : path ≡ is.before ++ v ∷ [] = is.is ∙ ap (λ x. is.before ++ x ∷ []) last in
      let short : length path - 1 ≡ length is.before = omega (arith, ap length same, length_push is.before v) in
      rw (short, same, take-append_seam is.before (v ∷ []), get_or-append_seam is.before v [] 0)
      (turned is.before (subst (IsDistinct eqb) same once) (λ x found. is.inside x (subst (λ p. has p x ≡ true) (sym same) found)) (subst (IsChain reads is.before) last is.leads) (subst (λ p. reads v (get_or p 0 0) ≡ true) same is.begins))

  pub last_is : (ends : ℕ → Bool) (path : List ℕ) → ((x : ℕ) → ends x ≡ true → x ≡ v) → IsPath count reads (reads v) ends path → get_or path (length path - 1) 0 ≡ v
  last_is ends path only is =
      let short : length path - 1 ≡ length is.before = omega (arith, ap length is.is, length_push is.before is.last) in
      rw (short, is.is) (get_or-append_seam is.before is.last [] 0 ∙ only is.last is.arrives)

  pub path_some : (starts ends : ℕ → Bool) (path : List ℕ) → IsPath count reads starts ends path → 0 < length path
  path_some starts ends path is = omega (arith, ap length is.is, length_push is.before is.last)

  -- a loop that begins with v is a path after it
  behind : (ends : ℕ → Bool) (rest : List ℕ) → ends v ≡ true → IsLoop count reads (v ∷ rest) → IsPath count reads (reads v) ends (rest ++ v ∷ [])
  behind ends rest end is = record {
    before = rest;
    last = v;
    is = refl;
    inside = λ x found. is.inside x (elim (has_push rest v x found) [ inl later ↦ or_right (eqb x v) (has rest x) later | inr here ↦ or_left (eqb x v) (has rest x) (rw here (eqb_same v)) ]);
    begins = first rest is.returns.0;
    leads = is.returns.1;
    arrives = end;
  }
    where
      first : (xs : List ℕ) → reads v (get_or xs 0 v) ≡ true → reads v (get_or (xs ++ v ∷ []) 0 0) ≡ true
      first [] on = on
      first (x ∷ xs) on = on

  begun : (ends : ℕ → Bool) (chain : List ℕ) → ends v ≡ true → get_or chain 0 0 ≡ v → IsLoop count reads chain → HasNoPath count reads (reads v) ends → ⊥
  begun ends [] end first is none = is.some refl
  begun ends (x ∷ rest) end first is none = none (rest ++ v ∷ []) (behind ends rest end (subst (λ y. IsLoop count reads (y ∷ rest)) first is))

  pub on_no_loop : (ends : ℕ → Bool) → ends v ≡ true → HasNoPath count reads (reads v) ends → IsOnNoLoop count reads v
  on_no_loop ends end none chain is = false_from_ne_true (has chain v) (λ found.
      let there = place_of chain v found in
      let some : 0 < length (drop there.0 chain) = omega (arith, there.1, length-drop there.0 chain) in
      let first : get_or (drop there.0 chain ++ take there.0 chain) 0 0 ≡ v = get_or_append_left (drop there.0 chain) (take there.0 chain) 0 0 some ∙ (get_or-drop there.0 chain 0 0 ∙ (ap (λ k. get_or chain k 0) (add-zero there.0) ∙ there.2)) in
      begun ends (drop there.0 chain ++ take there.0 chain) end first (loop_turn count reads chain there.0 there.1 is) none)

-- if no vertex is on a loop there isn't one
pub no_loop_at_all : (count : ℕ) (reads : ℕ → ℕ → Bool) → ((v : ℕ) → v < count → IsOnNoLoop count reads v) → HasLoop count reads → ⊥
no_loop_at_all count reads none loop = by_first loop.0 loop.1
  where
    by_first : (chain : List ℕ) → IsLoop count reads chain → ⊥
    by_first [] is = is.some refl
    by_first (v ∷ rest) is =
        let here : has (v ∷ rest) v ≡ true = or_left (eqb v v) (has rest v) (eqb_same v) in
        true≢false (sym here ∙ none v (is.inside v here) (v ∷ rest) is)
