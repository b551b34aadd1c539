-- The written lists of a control.
use Rattle.std.proofs.Common.{◌≡◌, ◌⊎◌, true, [], Some, None, refl, sym, ap, ◌∙◌, inl, inr}
use Rattle.fitter.proofs.Common.{Netlist, ExprId, arena, formula_at, Or, Products, sum_of, bit_list, written, allowed_of, needed_of, control_function}
use Rattle.fitter.proofs.WantedIds.{zero_is}

sum_none : (a : Products) → sum_of a (Some []) ≡ a
sum_none None = refl
sum_none (Some rows) = refl

-- if a control is allowed it is needed
pub control_allowed : (net : Netlist) (bit : ExprId) → allowed_of net (control_function bit) true ≡ bit_list net bit true
control_allowed net bit =
    ap (λ f. written net (Or (formula_at (arena net.exprs) bit) f) true) (zero_is net) ∙ sum_none (bit_list net bit true)

-- a control whose cover has no written list
pub no_list : (net : Netlist) (bit : ExprId) → (needed_of net (control_function bit) true ≡ None) ⊎ (allowed_of net (control_function bit) true ≡ None) → bit_list net bit true ≡ None
no_list net bit (inl none) = none
no_list net bit (inr none) = sym (control_allowed net bit) ∙ none
