use Rattle.std.proofs.Common.{ap, ◌∙◌}
use Rattle.pld_machine.proofs.Common.{bits, q_at_rest, logic_of, length-bits}
use Rattle.pld_machine.proofs.OneRest.{is_the_rest}
use Rattle.pld_machine.proofs.rests.rest.Goals as goal

pub returns : goal.returns
returns g c =
    let m = g.L.Logic.meaning c.args.logic.now in
    rw c.settled_with.ensures
    (is_the_rest m c.requires (bits 32 c.args.outside) (length-bits 32 c.args.outside) (bits 32 c.args.stored) (bits 32 c.resting_q-q.result) (bits 32 c.args.stored) (length-bits 32 c.args.stored) (length-bits 32 c.resting_q-q.result)
    (λ k low. c.resting_q-q.ensures k low ∙ ap (λ at. q_at_rest (logic_of m) (bits 32 c.args.stored) at k) c.settled-first.ensures))
