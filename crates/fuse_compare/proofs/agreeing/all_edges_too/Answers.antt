use Rattle.std.proofs.Common.{◌≡◌, true, sym, ◌∙◌, below_more}
use Rattle.fuse_compare.proofs.Common.{levels_of, edge_too}
use Rattle.fuse_compare.proofs.agreeing.all_edges_too.Goals as goal

pub loop-cell-preserved : goal.loop-cell-preserved
loop-cell-preserved g c =
    below_more (λ d. edge_too (g.A.Logic.meaning c.args.a.now) (g.B.Logic.meaning c.args.b.now) (levels_of c.args.at.now) d ≡ true) c.loop-cell.cell
    c.loop-cell.invariant (sym c.edge_too.ensures ∙ c.if-not-edge_too.false)
