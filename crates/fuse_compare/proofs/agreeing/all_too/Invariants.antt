use Rattle.std.proofs.Common.{◌≡◌, ℕ, ◌<◌, true}
use Rattle.fuse_compare.proofs.Common.{bits, levels_of, cell_too}
use Rattle.fuse_compare.proofs.agreeing.all_too.Given as goal

abbrev pub invariant-loop-cell : goal.invariant-loop-cell
invariant-loop-cell g l = (c : ℕ) → c < l.cell → cell_too (g.A.Logic.meaning l.a) (g.B.Logic.meaning l.b) (levels_of l.at) (bits 32 l.stored) c ≡ true
