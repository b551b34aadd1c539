-- The plan of all rows, once they are turned and put in order.
use Rattle.std.proofs.Common.{◌≡◌, ℕ, ◌<◌, ◌≤◌, ◌^◌, Bool, true, false, not, ◌&&◌, if◌then◌else◌, List, [], ◌∷◌, ◌++◌, length, get_or, slice_get, Option, None, Some, refl, sym, ap, ap₂, ◌∙◌, subst, arith, inl, inr}
use Rattle.fitter.proofs.Common.{bit_xor, option_map, option_to_list, cases_Bool, cases_lt, length-append, length-map, length_permutation, xor_lt, same_Some, slice_get-get_or, slice_get_within, get_or-append_seam, Carry, IsDevice, Table, cell_at, CellWanted, Netlist, get_kept, plain_netlist, netlist_stores, registers_as, IsSoundNetlist, Cube, all_turned, turned, IsChosenMask, IsTurnMask, PlansAs, PlansCell, PlansRows, carries_chosen, carries_complement, enable_bit, is_chosen, control_function, CellForm, CellPlan, AreTurned, IsChoiceMask, IsTurnedCell, carries_choice}
use Rattle.pld_device.specs.declared.carry.Carry.TheVariants as carry
use Rattle.fitter.proofs.PlansFit.{may_choose}
use Rattle.fitter.proofs.RisenCovers.{risen_cover}
use Rattle.fitter.proofs.TurnedCovers.{both_masks, one_turned, turned_cover}

-- ---- one cell more

pub none_turned : (t : Table) (mask : ℕ) → AreTurned t mask [] []
none_turned t mask = record { count = refl; each = λ k x there. absurd (none_some x there) }
  where
    none_some : (x : CellPlan) → None ≡ Some x → ⊥
    none_some x e = absurd cc

pub turned_more : (t : Table) (mask : ℕ) (olds news : List CellPlan) (x y : CellPlan) → AreTurned t mask olds news → IsTurnedCell t mask x y → AreTurned t mask (olds ++ x ∷ []) (news ++ y ∷ [])
turned_more t mask olds news x y before here = record {
  count = let count = before.count in omega (arith, count, length-append news (y ∷ []), length-append olds (x ∷ []));
  each = λ k z there. elim (cases_lt k (length olds)) [
    | inl less ↦
        let was : slice_get olds k ≡ Some z = kept_back olds x k z less there in
        let has = before.each k z was in
        record { cell = has.cell; there = get_kept news (y ∷ []) k has.cell has.there; is = has.is }
    | inr past ↦
        let within = slice_get_within (olds ++ x ∷ []) k z there in
        let same : k ≡ length olds = omega (arith, past, within, length-append olds (x ∷ [])) in
        let own : x ≡ z = same_Some x z (sym (last olds x) ∙ (ap (slice_get (olds ++ x ∷ [])) (sym same) ∙ there)) in
        record {
          cell = y;
          there = ap (slice_get (news ++ y ∷ [])) (same ∙ sym before.count) ∙ last news y;
          is = subst (λ (v : CellPlan). IsTurnedCell t mask v y) own here;
        }
  ];
}
  where
    last : (plans : List CellPlan) (p : CellPlan) → slice_get (plans ++ p ∷ []) (length plans) ≡ Some p
    last plans p =
        slice_get-get_or (plans ++ p ∷ []) (length plans) p (omega (arith, length-append plans (p ∷ [])))
        ∙ ap (λ (v : CellPlan). Some v) (get_or-append_seam plans p [] p)

    kept_back : (plans : List CellPlan) (p : CellPlan) (k : ℕ) (z : CellPlan) → k < length plans → slice_get (plans ++ p ∷ []) k ≡ Some z → slice_get plans k ≡ Some z
    kept_back plans p k z low there =
        let here = slice_get-get_or plans k z low in
        here ∙ (sym (get_kept plans (p ∷ []) k (get_or plans k z) here) ∙ there)

-- ---- a cell's plan under the mask of the chosen forms

module _ (t : Table) (laws : IsDevice t) (mask other : ℕ) (low : mask < 2 ^ 32) (other_low : other < 2 ^ 32) (net : Netlist) where
  few_pairs : length t.pairs ≤ 32
  few_pairs = omega (arith, laws.sizes.columns_even, laws.sizes.columns_high)

  pub turned_control : (bit : _) (row : Option Cube) → PlansRows (length t.pairs) mask net (control_function bit) true (option_to_list row)
      → PlansRows (length t.pairs) (bit_xor mask other) net (control_function bit) true (option_to_list (option_map (turned other) row))
  turned_control bit row cover =
      subst (PlansRows (length t.pairs) (bit_xor mask other) net (control_function bit) true) (one_turned other row)
      (turned_cover (length t.pairs) mask other _ _ (option_to_list row) few_pairs low other_low cover)

  turned_cell_plan : (c : ℕ) (w : CellWanted) (x y : CellPlan) (form : CellForm) → PlansCell t mask net c w x form → IsTurnedCell t other x y → PlansCell t (bit_xor mask other) net c w y form
  turned_cell_plan c w x y form cell is = record {
    registered = cell.registered;
    may = cell.may;
    enable = subst (λ row. PlansRows (length t.pairs) (bit_xor mask other) net (control_function (enable_bit w)) true (option_to_list row)) (sym is.enable) (turned_control (enable_bit w) x.enable cell.enable);
    rows = risen_cover (length t.pairs) (bit_xor mask other) _ _ (all_turned other x.rows) y.rows is.same (turned_cover (length t.pairs) mask other _ _ x.rows few_pairs low other_low cell.rows);
    fit = let fit = cell.fit in omega (arith, fit, length_permutation (all_turned other x.rows) y.rows is.same, length-map x.rows (turned other));
  }

  no_rows : (xs : List Cube) → length xs ≡ 0 → xs ≡ []
  no_rows [] none = refl
  no_rows (x ∷ xs) none = absurd (omega (arith, none))

  pub turned_as : (c : ℕ) (wanted : Option CellWanted) (x y : CellPlan) (form : CellForm) → PlansAs t mask net c wanted x form → IsTurnedCell t other x y → PlansAs t (bit_xor mask other) net c wanted y form
  turned_as c None x y form spare is = record {
    registered = spare.registered;
    inverted = spare.inverted;
    enable = is.enable ∙ ap (option_map (turned other)) spare.enable;
    rows = no_rows y.rows (omega (arith, length_permutation (all_turned other x.rows) y.rows is.same, length-map x.rows (turned other), ap length spare.rows));
  }
  turned_as c (Some w) x y form cell is = turned_cell_plan c w x y form cell is

-- ---- the mask

module _ (t : Table) (net : Netlist) (sound : IsSoundNetlist t net) (forms : List CellForm) (mask other : ℕ) (mask_is : IsTurnMask t (plain_netlist net) mask) (choice : IsChoiceMask t net forms other) where
  -- a cell that is chosen to store the complement is a register
  kept : (c : ℕ) → is_chosen net forms c ≡ true → netlist_stores t (plain_netlist net) c ≡ true
  kept c on = let of = (may_choose t net sound forms c on).1 in ap (registers_as (cell_at t c).kinds) of.there ∙ of.registered

  and_true : (b : Bool) → b ≡ (b && true)
  and_true true = refl
  and_true false = refl

  by_carry : (y : Carry) → (if carries_choice net forms y then not (carries_complement t (plain_netlist net) y) else carries_complement t (plain_netlist net) y) ≡ carries_chosen t (plain_netlist net) (is_chosen net forms) y
  by_carry (carry.Pin p) = refl
  by_carry (carry.Cell c) =
      elim (cases_Bool (is_chosen net forms c)) [
        | inl on ↦ rw (on, kept c on) refl
        | inr off ↦ rw off (and_true (netlist_stores t (plain_netlist net) c))
      ]

  pub both_is : IsChosenMask t (plain_netlist net) (is_chosen net forms) (bit_xor mask other)
  both_is = record {
    low = xor_lt 32 mask other mask_is.low choice.low;
    bits = λ v within.
        both_masks (length t.pairs) mask other v within
        ∙ (ap₂ (λ b d. if b then not d else d) (choice.bits v within) (mask_is.bits v within) ∙ by_carry (get_or t.pairs v (carry.Pin 0)));
  }
