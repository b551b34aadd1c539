use Rattle.std.proofs.Common.{sym, subst, All}
use Rattle.gathering.proofs.Common.{IsPlaced}
use Rattle.gathering.proofs.netlist.gather_up.Goals as goal

pub returns-clause-places : goal.returns-clause-places
returns-clause-places g c =
    subst (λ ws. All (IsPlaced c.args.found.list) ws) (sym c.from_vec-2.ensures)
    (subst (λ cs. All (IsPlaced cs) c.in_ok-asked.asked.cells.items) c.as_slice.ensures c.in_ok-asked.ensures.places)
