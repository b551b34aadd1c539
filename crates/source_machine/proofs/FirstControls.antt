-- The cell of least name with an equation is found from the back, and what is asked of a cell from the front.
use Rattle.std.proofs.Common.{◌≡◌, ℕ, ◌+◌, ◌-◌, ◌<◌, ◌≤◌, Bool, true, false, ◌==◌, nat_lt, List, ◌∷◌, drop, get_or, length, map, Option, Some, None, refl, sym, ap, ◌∙◌, subst, arith, inl, inr, All, IfSome, find, is_some, if◌then◌else◌}
use Rattle.source_machine.proofs.Common.{option_map, cases_Bool, at_drop_more, Formula, Wanted, earlier_name, first_with, plain_control, plain_wanted, own_by, own_formula, before_of, earlier_of}
use Rattle.bit_expr.specs.declared.netlist.CellWanted.{CellWanted}
use Rattle.bit_expr.specs.declared.netlist.Control.{Control}
use Rattle.source_machine.specs.declared.controls.RegisterControl.{RegisterControl}
use Rattle.source_machine.specs.declared.controls.RegisterControl.TheVariants.{Reset, Preset}

module _ (fs : List Formula) where
  -- what is asked of the cell, among those from a place on
  abbrev pub found_from : List CellWanted → (c place : ℕ) → Option Wanted
  found_from cells c place = find (λ (w : Wanted). w.cell == c) (map (plain_wanted fs) (drop place cells))

  pub found_here : (cells : List CellWanted) (c place : ℕ) (d : CellWanted) → place < length cells → (get_or cells place d).cell == c ≡ true → found_from cells c place ≡ Some (plain_wanted fs (get_or cells place d))
  found_here cells c place d within hit =
      at_drop_more (λ ws. find (λ (w : Wanted). w.cell == c) (map (plain_wanted fs) ws)) cells place d within ∙ (rw hit refl)

  pub found_next : (cells : List CellWanted) (c place : ℕ) (d : CellWanted) → place < length cells → (get_or cells place d).cell == c ≡ false → found_from cells c place ≡ found_from cells c (place + 1)
  found_next cells c place d within miss =
      at_drop_more (λ ws. find (λ (w : Wanted). w.cell == c) (map (plain_wanted fs) ws)) cells place d within ∙ (rw miss refl)

  -- ---- the first by name

  module _ (which : RegisterControl) where
    pub own_is : (w : CellWanted) → own_formula which (plain_wanted fs w) ≡ plain_control fs (own_by which w)
    own_is w = by_control which
      where
        by_control : (r : RegisterControl) → own_formula r (plain_wanted fs w) ≡ plain_control fs (own_by r w)
        by_control Reset = refl
        by_control Preset = refl

    some_is : (w : CellWanted) → is_some (own_formula which (plain_wanted fs w)) ≡ is_some (own_by which w)
    some_is w = ap is_some (own_is w) ∙ mapped (own_by which w)
      where
        mapped : (o : Option Control) → is_some (plain_control fs o) ≡ is_some o
        mapped None = refl
        mapped (Some c) = refl

    before_is : (w : CellWanted) (first : Option CellWanted) → plain_wanted fs (before_of w first) ≡ earlier_name (plain_wanted fs w) (option_map (plain_wanted fs) first)
    before_is w None = refl
    before_is w (Some v) = elim (cases_Bool (nat_lt v.name w.name)) [ inl less ↦ rw less refl | inr more ↦ rw more refl ]

    -- one cell more, in front
    pub one_before : (cells : List CellWanted) (place : ℕ) (d : CellWanted) (first : Option CellWanted) → place < length cells
        → option_map (plain_wanted fs) first ≡ first_with (own_formula which) (map (plain_wanted fs) (drop (place + 1) cells))
        → option_map (plain_wanted fs) (earlier_of which (get_or cells place d) first) ≡ first_with (own_formula which) (map (plain_wanted fs) (drop place cells))
    one_before cells place d first within rest =
        step (get_or cells place d) ∙ sym (at_drop_more (λ ws. first_with (own_formula which) (map (plain_wanted fs) ws)) cells place d within)
      where
        step : (w : CellWanted) → option_map (plain_wanted fs) (earlier_of which w first) ≡ first_with (own_formula which) (plain_wanted fs w ∷ map (plain_wanted fs) (drop (place + 1) cells))
        step w =
            elim (cases_Bool (is_some (own_by which w))) [
              | inl has ↦ rw (some_is w, has) (ap (λ (x : Wanted). Some x) (before_is w first ∙ ap (earlier_name (plain_wanted fs w)) rest))
              | inr none ↦ rw (some_is w, none) rest
            ]

    -- the same, as a loop from the back has it
    pub one_more : (cells held : List CellWanted) (rest : ℕ) (d : CellWanted) (first result : Option CellWanted) → held ≡ cells → 0 < rest → rest ≤ length cells
        → result ≡ earlier_of which (get_or held (rest - 1) d) first
        → option_map (plain_wanted fs) first ≡ first_with (own_formula which) (map (plain_wanted fs) (drop rest cells))
        → option_map (plain_wanted fs) result ≡ first_with (own_formula which) (map (plain_wanted fs) (drop (rest - 1) cells))
    one_more cells held rest d first result same some low is before =
        let next : rest ≡ rest - 1 + 1 = omega (arith, some) in
        ap (option_map (plain_wanted fs)) (is ∙ ap (λ (ws : List CellWanted). earlier_of which (get_or ws (rest - 1) d) first) same)
        ∙ one_before cells (rest - 1) d first (omega (arith, some, low)) (subst (λ k. option_map (plain_wanted fs) first ≡ first_with (own_formula which) (map (plain_wanted fs) (drop k cells))) next before)

-- what all cells have, the first has
pub earlier_has : (P : CellWanted → Type 0) (which : RegisterControl) (cells held : List CellWanted) (place : ℕ) (d : CellWanted) (first result : Option CellWanted) → held ≡ cells → place < length cells
    → result ≡ earlier_of which (get_or held place d) first → All P cells → IfSome first P → IfSome result P
earlier_has P which cells held place d first result same within is all before =
    subst (λ o. IfSome o P) (sym (is ∙ ap (λ (ws : List CellWanted). earlier_of which (get_or ws place d) first) same))
    (either (get_or cells place d) first (all place d within) before (is_some (own_by which (get_or cells place d))))
  where
    chosen : (w : CellWanted) (o : Option CellWanted) → P w → IfSome o P → P (before_of w o)
    chosen w None here there = here
    chosen w (Some v) here there = elim (cases_Bool (nat_lt v.name w.name)) [ inl less ↦ rw less there | inr more ↦ rw more here ]

    either : (w : CellWanted) (o : Option CellWanted) → P w → IfSome o P → (b : Bool) → IfSome (if b then Some (before_of w o) else o) P
    either w o here there true = chosen w o here there
    either w o here there false = there
