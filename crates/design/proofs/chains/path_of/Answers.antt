use Rattle.std.proofs.Common.{ℕ, sym, ap, subst, ◌∙◌}
use Rattle.design.proofs.Common.{arena, Design, plain_control, given_formulas, names_if_any, HasNoSignalPath, AreLinks, AssignedHaveCells, reset_names}
use Rattle.bit_expr.specs.Reading.{AreReads}
use Rattle.design.proofs.chains.path_of.Goals as goal

pub reads-requires : goal.reads-requires
reads-requires c = rw c.in-Some.is at c.requires.inside.reset

pub returns-in-None-2 : goal.returns-in-None-2
returns-in-None-2 c k is any d of =
    let ns = c.args.signals.now in
    let ls = c.args.links.now in
    let none : (d : Design) (s : ℕ) → AssignedHaveCells d.context → AreLinks d.context (given_formulas d) ns ls → AreReads (reset_names d s) c.reads.result → HasNoSignalPath d s = rw c.in-None-2.is at c.in_ok-reset_path-in-Some.ensures.none in
    none d c.args.wanted.now.name of.cells of.links (subst (λ o. AreReads (names_if_any o) c.reads.result) (ap (plain_control (arena c.args.exprs.now)) (sym c.in-Some.is) ∙ of.reset) c.reads.ensures)
