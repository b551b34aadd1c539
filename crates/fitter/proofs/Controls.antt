-- The covers of controls, and of cells, by their written lists.
use Rattle.std.proofs.Common.{◌≡◌, ℕ, ◌<◌, ◌≤◌, ◌^◌, true, List, [], ◌∷◌, length, slice_get, Option, Some, refl, sym, ◌∙◌, subst, arith}
use Rattle.fitter.proofs.Common.{option_to_list, Cube, IsPrimeIrredundant, Netlist, ExprId, all_turned, PlansControl, PlansRows, control_function, IsNoProduct, IsProduct}
use Rattle.fitter.proofs.ControlLists.{control_allowed}
use Rattle.fitter.proofs.OneProduct.{many_rows, one_row_is}

same_list : (a b : List Cube) → Some a ≡ Some b → a ≡ b
same_list a b e = cc

module _ (vars mask : ℕ) (net : Netlist) (bit : ExprId) (few : vars ≤ 32) (low : mask < 2 ^ 32) where
  own_cover : (rows : List Cube) (cover : PlansRows vars mask net (control_function bit) true rows)
      → IsPrimeIrredundant (all_turned mask cover.needs) (all_turned mask cover.needs) vars rows
  own_cover rows cover =
      subst (λ (list : List Cube). IsPrimeIrredundant (all_turned mask cover.needs) (all_turned mask list) vars rows)
      (same_list cover.allows cover.needs (sym cover.allows_is ∙ (control_allowed net bit ∙ cover.needs_is))) cover.prime

  pub is_no_product : (rows : List Cube) → PlansRows vars mask net (control_function bit) true rows → 1 < length rows → IsNoProduct vars net bit
  is_no_product rows cover more = record {
    list = cover.needs;
    list_is = cover.needs_is;
    many = many_rows vars mask cover.needs rows few low (own_cover rows cover) more;
  }

  pub is_product : (o : Option Cube) → PlansControl vars mask net bit o → IsProduct vars net bit
  is_product o cover = record {
    list = cover.needs;
    list_is = cover.needs_is;
    one = one_row_is vars mask cover.needs o few low (own_cover (option_to_list o) cover);
  }

-- a list of at most one row is that of its first
pub first_of_one : (rows : List Cube) → length rows ≤ 1 → rows ≡ option_to_list (slice_get rows 0)
first_of_one [] one = refl
first_of_one (c ∷ []) one = refl
first_of_one (c ∷ d ∷ rows) one = absurd (omega (arith, one))
