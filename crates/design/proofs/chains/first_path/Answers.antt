use Rattle.std.proofs.Common.{subst, take, sym, ◌+◌}
use Rattle.design.proofs.Common.{take_all, arena, IsFirstFound}
use Rattle.design.proofs.CellResets.{first_more}
use Rattle.design.proofs.chains.first_path.Goals as goal

pub loop-wanted-preserved : goal.loop-wanted-preserved
loop-wanted-preserved c =
    let fs = arena c.args.exprs.now in
    let ns = c.args.signals.now in
    let ls = c.args.links.now in
    subst (IsFirstFound fs ns ls (take (c.loop-wanted.wanted-index + 1) c.args.cells.now)) (sym c.earlier-first.ensures)
    (first_more fs ns ls c.args.cells.now c.loop-wanted.wanted-index _ c.loop-wanted.first c.in_ok-found.found c.loop-wanted-test.true c.loop-wanted.invariant c.in_ok-found.ensures)

pub returns : goal.returns
returns c =
    subst (λ ws. IsFirstFound (arena c.args.exprs.now) c.args.signals.now c.args.links.now ws c.loop-wanted.first) (take_all c.loop-wanted.wanted-index c.args.cells.now c.loop-wanted-test.false) c.loop-wanted.invariant
