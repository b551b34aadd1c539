-- What is planned for a row is one of the plan's cubes.
use Rattle.std.proofs.Common.{◌≡◌, ℕ, Option, Some, None, slice_get, refl}
use Rattle.fit_plans.proofs.Common.{Cube, Table, CellPlan, Data, Enabling, Nobody, Preset, Reset, Plan, cube_for, of_cell, owner, planned}
use Rattle.fit_plans.specs.declared.plan.Owner.{Owner}

module _ (t : Table) (plan : Plan) (P : Cube → Type 0)
    (rows : (c i : ℕ) (x : CellPlan) (d : Cube) → slice_get plan.cells c ≡ Some x → slice_get x.rows i ≡ Some d → P d)
    (enables : (c : ℕ) (x : CellPlan) (d : Cube) → slice_get plan.cells c ≡ Some x → x.enable ≡ Some d → P d)
    (reset : (d : Cube) → plan.reset ≡ Some d → P d) (preset : (d : Cube) → plan.preset ≡ Some d → P d) where
  of_some : (part : CellPlan → Option Cube) (found : Option CellPlan) (d : Cube) → of_cell part found ≡ Some d
      → ((x : CellPlan) → found ≡ Some x → part x ≡ Some d → P d) → P d
  of_some part None d is each = absurd cc
  of_some part (Some x) d is each = each x refl is

  by_owner : (o : Owner) (d : Cube) → cube_for plan o ≡ Some d → P d
  by_owner (Data c i) d is = of_some (λ (x : CellPlan). slice_get x.rows i) (slice_get plan.cells c) d is (λ x there row. rows c i x d there row)
  by_owner (Enabling c) d is = of_some (λ (x : CellPlan). x.enable) (slice_get plan.cells c) d is (λ x there row. enables c x d there row)
  by_owner Reset d is = reset d is
  by_owner Preset d is = preset d is
  by_owner Nobody d is = absurd cc

  pub each_planned : (row : ℕ) (d : Cube) → planned t plan row ≡ Some d → P d
  each_planned row d is = by_owner (owner t row) d is
