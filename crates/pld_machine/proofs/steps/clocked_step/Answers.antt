use Rattle.std.proofs.Common.{◌≡◌, not, ◌&&◌, set, subst, sym, ◌∙◌}
use Rattle.pld_machine.proofs.Common.{bits, is_on, levels_of, logic_of, rises, IsTheRest, length-bits}
use Rattle.pld_machine.proofs.OneStep.{one_step}
use Rattle.pld_machine.proofs.steps.clocked_step.Goals as goal

pub returns : goal.returns
returns g c =
    let m = g.L.Logic.meaning c.args.logic.now in
    let held : bits 32 c.with_level-held.result ≡ set (bits 32 c.args.outside) m.clock (is_on (bits 32 c.args.before.now.pins) m.clock) = cc in
    let edge : rises (logic_of m) (levels_of c.args.before.now) (bits 32 c.args.outside) ≡ (not c.level_at-was.result && c.level_at.result) = cc in
    one_step m (levels_of c.args.before.now) (bits 32 c.args.outside) (levels_of c.rest-between.result) (bits 32 c.clocked_q-q.result) (levels_of c.rest_after.result)
    c.requires.clock
    (subst (λ o. IsTheRest (logic_of m) o (bits 32 c.args.before.now.q) (levels_of c.rest-between.result)) held c.rest-between.ensures)
    (length-bits 32 c.clocked_q-q.result)
    (λ up. c.clocked_q-q.ensures.edge (sym edge ∙ up))
    (λ still. c.clocked_q-q.ensures.no_edge (sym edge ∙ still))
    c.rest_after.ensures
