-- Equal words are found.
use Rattle.std.proofs.Common.{sym, ◌∙◌}
use Rattle.decls.proofs.SaidWords.{found_same}
use Rattle.decls.proofs.checks.has_said.Goals as goal

pub returns-then-eq : goal.returns-then-eq
returns-then-eq c = λ t p h.
    found_same p c.args.list.now c.loop-other.other-index c.args.said c.loop-other-test.true (sym c.eq.ensures ∙ c.if-eq.true) h
