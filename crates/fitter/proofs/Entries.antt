-- The entries of an answer, one a cell in turn.
use Rattle.std.proofs.Common.{◌≡◌, ℕ, ◌+◌, ◌<◌, List, [], ◌∷◌, ◌++◌, length, get_or, slice_get, Some, None, sym, ap, ◌∙◌, subst, arith, inl, inr, All, AllPairs}
use Rattle.fitter.proofs.Common.{cases_lt, get_or_append_left, length-append, get_or-append_seam, slice_get-get_or, Table, CellWanted, Netlist, get_kept, cell_wanted, CellForm, CellPlan, FittedCell, EntriesBelow, IsEntryOf}

none_some : (w : CellWanted) → None ≡ Some w → ⊥
none_some w e = absurd cc

-- what holds of all of a list and of one more
all_more : (P : FittedCell → Type 0) (xs : List FittedCell) (x : FittedCell) → All P xs → P x → All P (xs ++ x ∷ [])
all_more P xs x all here k d low =
    elim (cases_lt k (length xs)) [
      | inl less ↦ subst P (sym (get_or_append_left xs (x ∷ []) d k less)) (all k d less)
      | inr past ↦
          let same : k ≡ length xs = omega (arith, past, low, length-append xs (x ∷ [])) in
          subst P (sym (ap (λ i. get_or (xs ++ x ∷ []) i d) same ∙ get_or-append_seam xs x [] d)) here
    ]

module _ (t : Table) (net : Netlist) (plans : List CellPlan) (forms : List CellForm) where
  pub no_entries : EntriesBelow t net plans forms 0 []
  no_entries = record {
    entries = λ k d low. absurd (omega (arith, low));
    low = λ k d low. absurd (omega (arith, low));
    order = λ i j d less low. absurd (omega (arith, less, low));
    each = λ d w low is. absurd (omega (arith, low));
  }

  -- a cell that is assigned nothing has no entry
  pub entry_skipped : (c : ℕ) (list : List FittedCell) → EntriesBelow t net plans forms c list → cell_wanted net c ≡ None → EntriesBelow t net plans forms (c + 1) list
  entry_skipped c list before none = record {
    entries = before.entries;
    low = λ k d within. let low = before.low k d within in omega (arith, low);
    order = before.order;
    each = λ d w low is. elim (cases_lt d c) [
      | inl less ↦ before.each d w less is
      | inr more ↦ let same : d ≡ c = omega (arith, low, more) in absurd (none_some w (sym none ∙ (ap (cell_wanted net) (sym same) ∙ is)))
    ];
  }

  pub entry_more : (c : ℕ) (list : List FittedCell) (x : FittedCell) → EntriesBelow t net plans forms c list → x.cell ≡ c → IsEntryOf t net plans forms x
      → EntriesBelow t net plans forms (c + 1) (list ++ x ∷ [])
  entry_more c list x before own entry = record {
    entries = all_more (IsEntryOf t net plans forms) list x before.entries entry;
    low = all_more (λ (y : FittedCell). y.cell < c + 1) list x (λ k d within. let low = before.low k d within in omega (arith, low)) (omega (arith, own));
    order = rising;
    each = λ d w low is. elim (cases_lt d c) [
      | inl less ↦ kept d w less is
      | inr more ↦
          let same : d ≡ c = omega (arith, low, more) in
          (length list, x, slice_get-get_or (list ++ x ∷ []) (length list) x (omega (arith, length-append list (x ∷ []))) ∙ ap (λ (y : FittedCell). Some y) (get_or-append_seam list x [] x), own ∙ sym same)
    ];
  }
    where
      kept : (d : ℕ) (w : CellWanted) → d < c → cell_wanted net d ≡ Some w → (k : ℕ) × (y : FittedCell) × (slice_get (list ++ x ∷ []) k ≡ Some y) × (y.cell ≡ d)
      kept d w less is = let found = before.each d w less is in (found.0, found.1, get_kept list (x ∷ []) found.0 found.1 found.2, found.3)

      rising : AllPairs (λ (a b : FittedCell). a.cell < b.cell) (list ++ x ∷ [])
      rising i j d less within =
          elim (cases_lt j (length list)) [
            | inl inside ↦
                subst (λ (a : FittedCell). a.cell < (get_or (list ++ x ∷ []) j d).cell) (sym (get_or_append_left list (x ∷ []) d i (omega (arith, less, inside))))
                (subst (λ (b : FittedCell). (get_or list i d).cell < b.cell) (sym (get_or_append_left list (x ∷ []) d j inside)) (before.order i j d less inside))
            | inr past ↦
                let same : j ≡ length list = omega (arith, past, within, length-append list (x ∷ [])) in
                let i_low : i < length list = omega (arith, less, same) in
                let low = before.low i d i_low in
                let last : get_or (list ++ x ∷ []) j d ≡ x = ap (λ n. get_or (list ++ x ∷ []) n d) same ∙ get_or-append_seam list x [] d in
                subst (λ (a : FittedCell). a.cell < (get_or (list ++ x ∷ []) j d).cell) (sym (get_or_append_left list (x ∷ []) d i i_low))
                (subst (λ (b : FittedCell). (get_or list i d).cell < b.cell) (sym last) (subst (λ n. (get_or list i d).cell < n) (sym own) low))
          ]
