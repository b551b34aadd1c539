-- One place more.
use Rattle.std.proofs.Common.{◌≡◌, ◌+◌, ◌==◌, true, false, get_or, sym, subst, arith}
use Rattle.placer.proofs.Common.{nat_tests}
use Rattle.placer.proofs.Signals.{IsMarkedTo, none_met, other_met, this_met}
use Rattle.placer.proofs.marks.mark_of.Goals.{then-signal-number, else-signal-number}
use Rattle.placer.proofs.marks.mark_of.Goals as goal

pub loop-place-init : goal.loop-place-init
loop-place-init c = none_met c.args.signals.now c.requires c.args.number

pub loop-place-preserved : goal.loop-place-preserved
loop-place-preserved c =
    let l = c.loop-place in
    let signals = c.args.signals.now in
    elim c.if-signal-number.branch [
      | then-signal-number w ↦
          let test : (c.args.number == get_or signals l.place 0) ≡ true = grind (arith, nat_tests, w.if-signal-number) in
          subst (IsMarkedTo signals c.args.number (l.place + 1)) (sym w.mark-is) (this_met signals c.requires c.args.number l.place l.mark w.with_level-mark.result w.with_level-mark.ensures test c.loop-place-test.true l.invariant)
      | else-signal-number w ↦
          let test : (c.args.number == get_or signals l.place 0) ≡ false = grind (arith, nat_tests, w.if-signal-number) in
          subst (IsMarkedTo signals c.args.number (l.place + 1)) (sym w.mark-is) (other_met signals c.requires c.args.number l.place l.mark test c.loop-place-test.true l.invariant)
    ]
