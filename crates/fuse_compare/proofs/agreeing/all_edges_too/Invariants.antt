use Rattle.std.proofs.Common.{◌≡◌, ℕ, ◌<◌, true}
use Rattle.fuse_compare.proofs.Common.{levels_of, edge_too}
use Rattle.fuse_compare.proofs.agreeing.all_edges_too.Given as goal

abbrev pub invariant-loop-cell : goal.invariant-loop-cell
invariant-loop-cell g l = (c : ℕ) → c < l.cell → edge_too (g.A.Logic.meaning l.a) (g.B.Logic.meaning l.b) (levels_of l.at) c ≡ true
