use Rattle.std.proofs.Common.{◌≡◌, true, sym, ◌∙◌, below_more}
use Rattle.fuse_compare.proofs.Common.{bits, levels_of, cell_too}
use Rattle.fuse_compare.proofs.agreeing.all_too.Goals as goal

pub loop-cell-preserved : goal.loop-cell-preserved
loop-cell-preserved g c =
    below_more (λ d. cell_too (g.A.Logic.meaning c.args.a.now) (g.B.Logic.meaning c.args.b.now) (levels_of c.args.at.now) (bits 32 c.args.stored) d ≡ true) c.loop-cell.cell
    c.loop-cell.invariant (sym c.cell_too.ensures ∙ c.if-not-cell_too.false)
