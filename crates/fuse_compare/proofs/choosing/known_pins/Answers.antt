use Rattle.std.proofs.Common.{sym, ◌∙◌}
use Rattle.fuse_compare.proofs.Gathered.{pin_in, pin_out}
use Rattle.fuse_compare.proofs.choosing.known_pins.Goals.{then-either_knows_pin+in_ok-push, else-either_knows_pin}
use Rattle.fuse_compare.proofs.choosing.known_pins.Goals as goal

pub loop-pin-preserved : goal.loop-pin-preserved
loop-pin-preserved g c =
    let t = g.D.Device.table in
    elim c.if-either_knows_pin.branch [
      | then-either_knows_pin+in_ok-push w ↦
          rw (w.vars-is, w.in_ok-push.ensures.items)
          (pin_in t c.args.a.now c.args.b.now c.loop-pin.pin c.loop-pin.vars.items c.loop-pin-test.true c.loop-pin.invariant (sym c.either_knows_pin.ensures ∙ w.if-either_knows_pin.true))
      | else-either_knows_pin w ↦
          rw w.vars-is (pin_out t c.args.a.now c.args.b.now c.loop-pin.pin c.loop-pin.vars.items c.loop-pin.invariant (sym c.either_knows_pin.ensures ∙ w.if-either_knows_pin.false))
    ]
