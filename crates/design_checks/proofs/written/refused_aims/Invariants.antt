-- So many signals are gone through.
use Rattle.std.proofs.Common.{◌≡◌, ◌≤◌, Bool, length, take}
use Rattle.design_checks.proofs.Common.{first_refusal, context_for, use_order, positions_by, Written, aims_refused}
use Rattle.design_checks.proofs.written.refused_aims.Given as goal

abbrev pub invariant-loop-position : goal.invariant-loop-position
invariant-loop-position g l =
    (w : Written) (b : Bool) → l.value ≡ positions_by w b → length l.aims ≤ 32
    → l.first ≡ first_refusal use_order (aims_refused (context_for g.D.Device.table l.scope) l.extension w 0 (take l.position l.aims))
