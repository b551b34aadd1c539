-- Functions over a sound netlist can be covered.
use Rattle.std.proofs.Common.{◌≡◌, ◌<◌, ◌≤◌, true, length, arith, inl, inr}
use Rattle.fitter.proofs.Common.{or_cases, IsDevice, Table, Netlist, ExprId, Leaf, arena, formula_at, Formula, Or, names, plain_netlist, IsSoundNetlist, IsSoundFormula, CanLower, IsSoundId, SoundCover}
use Rattle.sop_lowering.specs.Lowering.{HasPair}
use Rattle.fitter.proofs.CarriedPoints.{wires}
use Rattle.fitter.proofs.LeafPairs.{pin_has, q_has}
use Rattle.fitter.proofs.Reached.{reaches}

pub either_sound : (t : Table) (net : Netlist) (f g : Formula) → IsSoundFormula t (plain_netlist net) f → IsSoundFormula t (plain_netlist net) g
    → IsSoundFormula t (plain_netlist net) (Or f g)
either_sound t net f g first second l named = elim (or_cases (names f l) (names g l) named) [ inl here ↦ first l here | inr there ↦ second l there ]

pub can_lower : (t : Table) (net : Netlist) (id : ExprId) → IsDevice t → IsSoundNetlist t net → IsSoundId t net id → CanLower net id
can_lower t net id laws sound is = (
  is.within,
  reaches t net sound (HasPair net)
      (λ p r. let has = pin_has t laws net sound p r in (has.number_low, omega (arith, has.pair_below, laws.sizes.columns_even, laws.sizes.columns_high)))
      (λ c r. let has = q_has t laws net sound c r in (has.number_low, omega (arith, has.pair_below, laws.sizes.columns_even, laws.sizes.columns_high)))
      (formula_at (arena net.exprs) id) is.formula,
)

pub sound_cover : SoundCover
sound_cover t net f laws sound one any = record {
  one = can_lower t net f.one laws sound one;
  any = can_lower t net f.any laws sound any;
  carried = λ pairs long.
      let w = wires t laws net sound pairs long in
      record {
        at = w.at;
        carries = w.carries (Or (formula_at (arena net.exprs) f.one) (formula_at (arena net.exprs) f.any)) (either_sound t net (formula_at (arena net.exprs) f.one) (formula_at (arena net.exprs) f.any) one.formula any.formula);
      };
}
