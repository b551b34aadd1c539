-- What a fuse past the array controls, and its level.
use Rattle.std.proofs.Common.{◌≡◌, ◌⊎◌, ℕ, ◌+◌, ◌*◌, ◌<◌, ◌≤◌, ◌==◌, Bool, true, false, nat_eq, nat_lt, if◌then◌else◌, Option, None, Some, List, ◌∷◌, [], ◌++◌, length, get_or, refl, ap, sym, subst, ◌∙◌, inl, inr, arith, slice_get, is_some, unwrap_or}
use Rattle.fit_plans.proofs.Common.{cases_Bool, eqb-true, eq-eqb, ltb-true, get_or_append_left, get_or_past, slice_get_past, slice_get_within, nat_tests, is_on, same_level, Control, Inverts, Registers, Switches, IsFixed, fuse_for, fuse_if_any, IsDevice, Table, inverted_at, registered_at, Plan, IsPlanned, form_at, IsBurned, IsControlLevel, IsNoControl, IsNoCells, IsFoundFor, control_level, told_by, told_level}
use Rattle.std.specs.Option.{option_eq}
use Rattle.std.proofs.Math.Seq.{get_or-append_seam}
use Rattle.pld_device.specs.declared.fuse_bit.FuseBit.{FuseBit}
use Rattle.fit_plans.specs.declared.control_fuses.CellForm.{CellForm}

-- ---- a level that is reported

false_true : false ≡ true → ⊥
false_true is = absurd cc

some_same : {X : Type 0} (x y : X) → Some x ≡ Some y → x ≡ y
some_same x y is = ap (λ o. unwrap_or o x) is

none_some : {X : Type 0} (x : X) → None ≡ Some x → ⊥
none_some x is = absurd cc

-- the fuse is that of the bit, and the level says what is reported
record IsTold (bit : Option FuseBit) (fuse : ℕ) (told level : Bool) : Type 0 where
  pub names : fuse_if_any bit ≡ Some fuse
  pub says : level ≡ told_level bit told

told_some : (bit : Option FuseBit) (fuse : ℕ) (told level : Bool) → told_by bit fuse told ≡ Some level → IsTold bit fuse told level
told_some None fuse told level is = absurd cc
told_some (Some bit) fuse told level is = out (cases_Bool (bit.fuse == fuse))
  where
    out : ((bit.fuse == fuse) ≡ true) ⊎ ((bit.fuse == fuse) ≡ false) → IsTold (Some bit) fuse told level
    out (inl on) =
        let here : (if bit.fuse == fuse then Some (same_level bit.level told) else None) ≡ Some (same_level bit.level told) = rw on refl in
        record { names = ap Some (eqb-true bit.fuse fuse on); says = some_same level _ (sym is ∙ here) }
    out (inr off) =
        let here : (if bit.fuse == fuse then Some (same_level bit.level told) else None) ≡ None = rw off refl in
        absurd (none_some level (sym here ∙ is))

told_none : (bit : Option FuseBit) (fuse : ℕ) (told : Bool) → told_by bit fuse told ≡ None → fuse_if_any bit ≡ Some fuse → ⊥
told_none None fuse told is names = absurd cc
told_none (Some bit) fuse told is names =
    let same : bit.fuse ≡ fuse = some_same bit.fuse fuse names in
    let here : (if bit.fuse == fuse then Some (same_level bit.level told) else None) ≡ Some (same_level bit.level told) = rw (eq-eqb bit.fuse fuse same) refl in
    none_some _ (sym is ∙ here)

found_by : (t : Table) (levels : Control → Bool) (fuse : ℕ) (what : Control) (bit : Option FuseBit) (told : Bool) → fuse_for t what ≡ fuse_if_any bit
    → levels what ≡ told_level bit told → (found : Option Bool) → found ≡ told_by bit fuse told → IsFoundFor t levels fuse found
found_by t levels fuse what bit told fuse_is level_is None is = tt
found_by t levels fuse what bit told fuse_is level_is (Some level) is =
    let x = told_some bit fuse told level (sym is) in
    (what, fuse_is ∙ x.names, x.says ∙ sym level_is)

none_from : {X : Type 0} (found : Option X) → is_some found ≡ false → found ≡ None
none_from None off = refl
none_from (Some x) off = absurd cc

none_by : (bit : Option FuseBit) (fuse : ℕ) (told : Bool) (found : Option Bool) → found ≡ told_by bit fuse told → is_some found ≡ false
    → fuse_if_any bit ≡ Some fuse → ⊥
none_by bit fuse told found is off names = told_none bit fuse told (sym is ∙ none_from found off) names

-- ---- cells, rows and fixed fuses

module _ (t : Table) (plan : Plan) (forms : List CellForm) (fuse : ℕ) where
  pub found_inverted : (c : ℕ) (bit : Option FuseBit) (found : Option Bool) → bit ≡ inverted_at t c → found ≡ told_by bit fuse (form_at forms c).inverted
      → IsFoundFor t (control_level t plan forms) fuse found
  found_inverted c bit found bit_is is =
      found_by t (control_level t plan forms) fuse (Inverts c) (inverted_at t c) (form_at forms c).inverted refl refl found (is ∙ ap (λ b. told_by b fuse (form_at forms c).inverted) bit_is)

  pub found_registered : (c : ℕ) (bit : Option FuseBit) (found : Option Bool) → bit ≡ registered_at t c → found ≡ told_by bit fuse (form_at forms c).registered
      → IsFoundFor t (control_level t plan forms) fuse found
  found_registered c bit found bit_is is =
      found_by t (control_level t plan forms) fuse (Registers c) (registered_at t c) (form_at forms c).registered refl refl found (is ∙ ap (λ b. told_by b fuse (form_at forms c).registered) bit_is)

  pub no_cells : (c : ℕ) (inverted registered : Option FuseBit) (first second : Option Bool) → inverted ≡ inverted_at t c → first ≡ told_by inverted fuse (form_at forms c).inverted
      → is_some first ≡ false → registered ≡ registered_at t c → second ≡ told_by registered fuse (form_at forms c).registered → is_some second ≡ false → IsNoCells t fuse c
  no_cells c inverted registered first second inverted_is first_is first_off registered_is second_is second_off = (
    λ at. none_by inverted fuse (form_at forms c).inverted first first_is first_off (ap fuse_if_any inverted_is ∙ at),
    λ at. none_by registered fuse (form_at forms c).registered second second_is second_off (ap fuse_if_any registered_is ∙ at),
  )

  pub found_fixed : (index : ℕ) (found : Option Bool) → found ≡ told_by (slice_get t.fixed index) fuse true → IsFoundFor t (control_level t plan forms) fuse found
  found_fixed index found is = found_by t (control_level t plan forms) fuse (IsFixed index) (slice_get t.fixed index) true refl refl found is

pub no_fixed : (t : Table) (fuse index : ℕ) (found : Option Bool) → found ≡ told_by (slice_get t.fixed index) fuse true → is_some found ≡ false
    → fuse_for t (IsFixed index) ≡ Some fuse → ⊥
no_fixed t fuse index found is off = none_by (slice_get t.fixed index) fuse true found is off

pub switch_is : (switch : Option ℕ) (fuse : ℕ) → option_eq nat_eq switch (Some fuse) ≡ true → switch ≡ Some fuse
switch_is None fuse on = absurd cc
switch_is (Some other) fuse on = ap Some (eqb-true other fuse on)

pub switch_is_not : (switch : Option ℕ) (fuse : ℕ) → option_eq nat_eq switch (Some fuse) ≡ false → switch ≡ Some fuse → ⊥
switch_is_not None fuse off is = absurd cc
switch_is_not (Some other) fuse off is = let on = eq-eqb other fuse (some_same other fuse is) in false_true (sym off ∙ on)

-- one more number of which it is said
pub one_more : (P : ℕ → Type 0) (n : ℕ) → ((k : ℕ) → k < n → P k) → P n → (k : ℕ) → k < n + 1 → P k
one_more P n before here k low = out (cases_Bool (nat_lt k n))
  where
    out : (nat_lt k n ≡ true) ⊎ (nat_lt k n ≡ false) → P k
    out (inl less) = before k (ltb-true k n less)
    out (inr off) = let same : n ≡ k = grind (arith, nat_tests, off, low) in subst P same here

-- ---- the level

pub level_found : (t : Table) → IsDevice t → (plan : Plan) (forms : List CellForm) (fuse : ℕ) (level : Bool)
    → IsFoundFor t (control_level t plan forms) fuse (Some level) → IsControlLevel t plan forms fuse level
level_found t laws plan forms fuse level found = record {
  control = λ what at. found.2 ∙ ap (control_level t plan forms) (laws.control_apart found.0 what fuse found.1 at);
  free = λ nothing. absurd (nothing found.0 found.1);
}

module _ (t : Table) (laws : IsDevice t) (fuse : ℕ) (cells : (c : ℕ) → c < length t.cells → IsNoCells t fuse c)
    (rows : (row : ℕ) → row < t.rows → fuse_for t (Switches row) ≡ Some fuse → ⊥) (fixed : (index : ℕ) → index < 16 → fuse_for t (IsFixed index) ≡ Some fuse → ⊥) where
  no_bit : (bits : List (Option FuseBit)) (k : ℕ) → length bits ≤ k → fuse_if_any (get_or bits k None) ≡ Some fuse → ⊥
  no_bit bits k past at = let none : get_or bits k None ≡ None = get_or_past bits k None past in none_some fuse (sym (ap fuse_if_any none) ∙ at)

  no_control : IsNoControl t fuse
  no_control (Inverts c) at = elim (cases_Bool (nat_lt c (length t.cells))) [
    | inl less ↦ (cells c (ltb-true c (length t.cells) less)).0 at
    | inr off ↦ no_bit t.inverted c (grind (arith, nat_tests, off, laws.inverted_end)) at
  ]
  no_control (Registers c) at = elim (cases_Bool (nat_lt c (length t.cells))) [
    | inl less ↦ (cells c (ltb-true c (length t.cells) less)).1 at
    | inr off ↦ no_bit t.registered c (grind (arith, nat_tests, off, laws.registered_end)) at
  ]
  no_control (Switches row) at = rows row (let low = slice_get_within t.row_switches row fuse at in omega (arith, low, laws.switches_end)) at
  no_control (IsFixed index) at = elim (cases_Bool (nat_lt index 16)) [
    | inl less ↦ fixed index (ltb-true index 16 less) at
    | inr off ↦ let none : fuse_if_any (slice_get t.fixed index) ≡ None = ap fuse_if_any (slice_get_past t.fixed index (grind (arith, nat_tests, off, laws.few_fixed))) in none_some fuse (sym none ∙ at)
  ]

  pub level_none : (plan : Plan) (forms : List CellForm) → IsControlLevel t plan forms fuse false
  level_none plan forms = record { control = λ what at. absurd (no_control what at); free = λ nothing. refl }

-- if no cell and no row has the fuse, the level of a fixed one that was found, else 0
pub level_last : (t : Table) → IsDevice t → (plan : Plan) (forms : List CellForm) (fuse : ℕ) (found : Option Bool) → IsFoundFor t (control_level t plan forms) fuse found
    → ((c : ℕ) → c < length t.cells → IsNoCells t fuse c) → ((row : ℕ) → row < t.rows → fuse_for t (Switches row) ≡ Some fuse → ⊥)
    → (found ≡ None → (index : ℕ) → index < 16 → fuse_for t (IsFixed index) ≡ Some fuse → ⊥) → IsControlLevel t plan forms fuse (unwrap_or found false)
level_last t laws plan forms fuse None is cells rows fixed = level_none t laws fuse cells rows (fixed refl) plan forms
level_last t laws plan forms fuse (Some level) is cells rows fixed = level_found t laws plan forms fuse level is

-- ---- the list of levels

-- one more level of which it is said
pub more_levels : (P : ℕ → Bool → Type 0) (past n : ℕ) (xs ys : List Bool) (level : Bool) → ys ≡ xs ++ level ∷ [] → length xs ≡ n
    → ((k : ℕ) → past ≤ k → k < n → P k (is_on xs k)) → (past ≤ n → P n level) → (k : ℕ) → past ≤ k → k < n + 1 → P k (is_on ys k)
more_levels P past n xs ys level more long before here k out low = rw more (at (cases_Bool (nat_lt k n)))
  where
    at : (nat_lt k n ≡ true) ⊎ (nat_lt k n ≡ false) → P k (is_on (xs ++ level ∷ []) k)
    at (inl less) =
        let below = ltb-true k n less in
        subst (P k) (sym (get_or_append_left xs (level ∷ []) false k (omega (arith, below, long)))) (before k out below)
    at (inr off) =
        let last : length xs ≡ k = grind (arith, nat_tests, off, low, long) in
        let same : n ≡ k = omega (arith, last, long) in
        let seam : is_on (xs ++ level ∷ []) k ≡ level = subst (λ m. is_on (xs ++ level ∷ []) m ≡ level) last (get_or-append_seam xs level [] false) in
        subst (P k) (sym seam) (subst (λ m. P m level) same (here (omega (arith, same, out))))

-- fuses that hold the plan, and past the array the levels of what they control
pub is_burned : (t : Table) (plan : Plan) (forms : List CellForm) (levels control fuses : List Bool) → control ≡ levels
    → ((n : ℕ) → t.columns * t.rows ≤ n → n < t.fuses → IsControlLevel t plan forms n (is_on levels n)) → IsPlanned t plan control fuses → IsBurned t plan forms fuses
is_burned t plan forms levels control fuses same are planned_all = record {
  size = planned_all.size;
  rows = planned_all.rows;
  past = λ n out low. subst (IsControlLevel t plan forms n) (sym (planned_all.past n out low ∙ ap (λ (l : List Bool). is_on l n) same)) (are n out low);
  cells = planned_all.cells;
}
