-- What is in an arena that grows.
use Rattle.std.proofs.Common.{◌≡◌, ℕ, ◌<◌, false, List, [], ◌∷◌, length, get_or, Result, Ok, Err, IfOk, refl, ap₂, ◌∙◌, arith}
use Rattle.gathering.proofs.Common.{All-head, All-tail, ExprId, formula_at, Formula, Const, view_contribution, Contribution, contributions_in, AllLieIn, Stands, Throughout, slice_get-get_or, get_or_from_slice_get}
use Rattle.pld_base.specs.declared.out_of_memory.OutOfMemory.{OutOfMemory}

pub stands_same : (fs : List Formula) → Stands fs fs
stands_same fs = record { keeps = λ i f e. e; longer = omega arith }

pub stands_on : (fs gs hs : List Formula) → Stands fs gs → Stands gs hs → Stands fs hs
stands_on fs gs hs first then_ = record { keeps = λ i f e. then_.keeps i f (first.keeps i f e); longer = omega (arith, first.longer, then_.longer) }

module _ (fs gs : List Formula) (stands : Stands fs gs) where
  -- so the formula of an id does
  pub same_formula : (i : ℕ) → i < length fs → get_or gs i (Const false) ≡ get_or fs i (Const false)
  same_formula i within =
      get_or_from_slice_get gs i (get_or fs i (Const false)) (Const false) (stands.keeps i (get_or fs i (Const false)) (slice_get-get_or fs i (Const false) within))

  pub same_seen : (c : Contribution) → c.when.0 < length fs → view_contribution gs c ≡ view_contribution fs c
  same_seen c within = rw (same_formula c.when.0 within) refl

  pub same_contributions : (cs : List Contribution) → AllLieIn (length fs) cs → contributions_in gs cs ≡ contributions_in fs cs
  same_contributions [] inside = refl
  same_contributions (c ∷ cs) inside =
      ap₂ (λ v vs. v ∷ vs)
      (same_seen c (All-head (λ (x : Contribution). x.when.0 < length fs) c cs inside))
      (same_contributions cs (All-tail (λ (x : Contribution). x.when.0 < length fs) c cs inside))

-- what was added is in all that the arena grows to
pub added : (old new : List Formula) (cs : List Contribution) (f : Formula) (g : List Formula → Formula) (r : Result ExprId OutOfMemory) → IfOk r (λ (id : ExprId). formula_at new id ≡ f) → IfOk r (λ (id : ExprId). id.0 < length new)
    → ((first : List Formula) → Stands first old → AllLieIn (length first) cs → f ≡ g first) → IfOk r (λ (id : ExprId). Throughout old new cs (λ first last. formula_at last id ≡ g first))
added old new cs f g (Ok id) is inside same = λ first last before lie behind. same_formula new last behind id.0 inside ∙ is ∙ same first before lie
added old new cs f g (Err e) is inside same = tt
