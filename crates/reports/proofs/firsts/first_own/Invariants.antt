-- The first of the cells so far.
use Rattle.std.proofs.Common.{◌≡◌, take}
use Rattle.reports.proofs.Common.{first_refusal, control_order, own_controls}
use Rattle.reports.proofs.firsts.first_own.Given as goal

abbrev pub invariant-loop-wanted : goal.invariant-loop-wanted
invariant-loop-wanted l = l.found ≡ first_refusal control_order (own_controls l.which (take l.wanted-index l.net.cells))
