-- When a function over a sound netlist can be covered (this project's rule).
use Rattle.std.specs.Prelude.{ℕ, ◌<◌, length}
use Rattle.fitter.specs.Prelude.{IsDevice, Table, Function, Netlist, ExprId, arena, formula_at, plain_netlist, IsSoundNetlist, CanCover}
use Rattle.abel_meaning.specs.Soundness.{IsSoundFormula}

-- the id lies in the arena, and its formula names only what the device can read
pub record IsSoundId (t : Table) (net : Netlist) (id : ExprId) : Type 0 where
  pub within : id.0 < length (arena net.exprs)
  pub formula : IsSoundFormula t (plain_netlist net) (formula_at (arena net.exprs) id)

-- over a sound netlist every function of two such ids can be covered, by all pairs of the device
abbrev pub SoundCover : Type 0
SoundCover =
    (t : Table) (net : Netlist) (f : Function) → IsDevice t → IsSoundNetlist t net → IsSoundId t net f.one → IsSoundId t net f.any
    → CanCover (length t.pairs) net f
