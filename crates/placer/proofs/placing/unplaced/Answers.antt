-- The signals at the places that are kept.
use Rattle.std.proofs.Common.{List, ℕ, sym, subst}
use Rattle.placer.proofs.Common.{IfOk-weaker, IsKept, IsRefusal}
use Rattle.placer.proofs.placing.unplaced.Goals as goal

pub returns-in-NoPlacement : goal.returns-in-NoPlacement
returns-in-NoPlacement c =
    IfOk-weaker c.refusal.result _ _
    (λ f told wishes is. told wishes (subst (λ (xs : List ℕ). IsKept wishes xs c.in-NoPlacement.places) (sym c.as_slice.ensures.value) (subst (IsRefusal wishes) c.in-NoPlacement.is is)))
    c.refusal.ensures
