-- What control fuses say that were burned for a plan.
use Rattle.std.proofs.Common.{◌≡◌, ◌≢◌, ℕ, ◌*◌, ◌<◌, ◌≤◌, Bool, true, false, ◌==◌, ◌||◌, List, [], ◌∷◌, ◌++◌, length, map, get_or, slice_get, Option, Some, None, refl, sym, ap, ◌∙◌, subst, arith, inl, inr, All, Contains, is_some, IsSome}
use Rattle.fitter.proofs.Common.{list_any, cases_Bool, cases_lt, eq-eqb, or_left, or_right, true≢false, get_or_past, list_any_at, slice_get-get_or, is_on, same_level, Always, Either, Inverts, IsDevice, IsFixed, Registers, Switches, fuse_for, fuse_if_any, is_inverted, says, is_switched_on, Table, cell_at, inverted_at, registered_at, has, Cube, CellForm, Plan, IsBurned, control_level, form_at, told_level, planned}
use Rattle.pld_device.specs.declared.fuse_bit.FuseBit.{FuseBit}
use Rattle.pld_device.specs.ControlFuses.{control_fuses, fuses_named}
use Rattle.pld_device.specs.Laws.{Control}
use Rattle.pld_device.specs.LawTests.FuseLists.{fixed_at, fixed_fuses, listed, named}

-- ---- a fuse that controls something is listed

has_more : (b : Bool) (xs ys : List ℕ) (n : ℕ) → (has xs n ≡ true → has (xs ++ ys) n ≡ true) → (b || has xs n) ≡ true → (b || has (xs ++ ys) n) ≡ true
has_more true xs ys n more there = refl
has_more false xs ys n more there = more there

has_left : (xs ys : List ℕ) (n : ℕ) → has xs n ≡ true → has (xs ++ ys) n ≡ true
has_left [] ys n there = absurd (true≢false (sym there))
has_left (x ∷ xs) ys n there = has_more (n == x) xs ys n (has_left xs ys n) there

has_right : (xs ys : List ℕ) (n : ℕ) → has ys n ≡ true → has (xs ++ ys) n ≡ true
has_right [] ys n there = there
has_right (x ∷ xs) ys n there = or_right (n == x) (has (xs ++ ys) n) (has_right xs ys n there)

has_of : (xs : List ℕ) (n : ℕ) → Contains xs n → has xs n ≡ true
has_of xs n there = list_any_at (λ x. n == x) xs there.0 n there.1 (eq-eqb n (get_or xs there.0 n) (sym there.2))

control_has : (t : Table) (what : Control) (n : ℕ) → fuse_for t what ≡ Some n → has (control_fuses t) n ≡ true
control_has t (Inverts c) n is =
    has_left (fuses_named t.inverted ++ fuses_named t.registered ++ t.row_switches) (fixed_fuses t.fixed) n
    (has_left (fuses_named t.inverted ++ fuses_named t.registered) t.row_switches n
    (has_left (fuses_named t.inverted) (fuses_named t.registered) n (has_of (fuses_named t.inverted) n (named t.inverted c n is))))
control_has t (Registers c) n is =
    has_left (fuses_named t.inverted ++ fuses_named t.registered ++ t.row_switches) (fixed_fuses t.fixed) n
    (has_left (fuses_named t.inverted ++ fuses_named t.registered) t.row_switches n
    (has_right (fuses_named t.inverted) (fuses_named t.registered) n (has_of (fuses_named t.registered) n (named t.registered c n is))))
control_has t (Switches row) n is =
    has_left (fuses_named t.inverted ++ fuses_named t.registered ++ t.row_switches) (fixed_fuses t.fixed) n
    (has_right (fuses_named t.inverted ++ fuses_named t.registered) t.row_switches n (has_of t.row_switches n (listed t.row_switches row n is)))
control_has t (IsFixed index) n is =
    has_right (fuses_named t.inverted ++ fuses_named t.registered ++ t.row_switches) (fixed_fuses t.fixed) n
    (has_of (fixed_fuses t.fixed) n (listed (fixed_fuses t.fixed) index n (fixed_at t.fixed index n is)))

-- ---- what they say

told_back : (level x : Bool) → same_level level (same_level level x) ≡ x
told_back true true = refl
told_back true false = refl
told_back false true = refl
told_back false false = refl

own_level : (level : Bool) → same_level level true ≡ level
own_level true = refl
own_level false = refl

module _ (t : Table) (laws : IsDevice t) (plan : Plan) (forms : List CellForm) (fuses : List Bool) (burned : IsBurned t plan forms fuses) where
  level_of : (what : Control) (fuse : ℕ) → fuse_for t what ≡ Some fuse → is_on fuses fuse ≡ control_level t plan forms what
  level_of what fuse is = let law = laws.control what fuse is in (burned.past fuse law.past law.below).control what is

  says_told : (what : Control) (bit : Option FuseBit) (told : Bool) → IsSome bit → fuse_for t what ≡ fuse_if_any bit → control_level t plan forms what ≡ told_level bit told
      → says fuses bit ≡ told
  says_told what None told some is level = absurd (true≢false (sym some))
  says_told what (Some bit) told some is level = ap (same_level bit.level) (level_of what bit.fuse is ∙ level) ∙ told_back bit.level told

  pub says_inverted : (c : ℕ) → c < length t.cells → t.flip ≢ Always → is_inverted t fuses c ≡ (form_at forms c).inverted
  says_inverted c within flips = says_told (Inverts c) (inverted_at t c) (form_at forms c).inverted ((laws.inverted c within).1 flips) refl refl

  pub says_registered : (c : ℕ) → c < length t.cells → (cell_at t c).kinds ≡ Either → says fuses (registered_at t c) ≡ (form_at forms c).registered
  says_registered c within either = says_told (Registers c) (registered_at t c) (form_at forms c).registered ((laws.registered c within).1 either) refl refl

  -- a row that holds a cube is switched on
  by_switch : (row : ℕ) (c : Cube) (switch : Option ℕ) → slice_get t.row_switches row ≡ switch → planned t plan row ≡ Some c → is_switched_on t fuses row ≡ true
  by_switch row c None is here = rw is refl
  by_switch row c (Some fuse) is here = rw is (level_of (Switches row) fuse is ∙ ap is_some here)

  pub holder_on : (row : ℕ) (c : Cube) → planned t plan row ≡ Some c → is_switched_on t fuses row ≡ true
  holder_on row c here = by_switch row c (slice_get t.row_switches row) refl here

  -- and one that has a switch and holds nothing is switched off
  pub switch_as : (row : ℕ) → row < length t.row_switches → is_switched_on t fuses row ≡ is_some (planned t plan row)
  switch_as row within =
      let there = slice_get-get_or t.row_switches row 0 within in
      rw there (level_of (Switches row) (get_or t.row_switches row 0) there)

  pub fixed_levels : All (λ (bit : FuseBit). is_on fuses bit.fuse ≡ bit.level) t.fixed
  fixed_levels k d within =
      let there = slice_get-get_or t.fixed k d within in
      level_of (IsFixed k) (get_or t.fixed k d).fuse (rw there refl) ∙ rw there (own_level (get_or t.fixed k d).level)

  pub others_off : (n : ℕ) → t.columns * t.rows ≤ n → has (control_fuses t) n ≡ false → is_on fuses n ≡ false
  others_off n past none =
      elim (cases_lt n t.fuses) [
        | inl low ↦ (burned.past n past low).free (λ what is. true≢false (sym (control_has t what n is) ∙ none))
        | inr out ↦ get_or_past fuses n false (let size = burned.size in omega (arith, size, out))
      ]
