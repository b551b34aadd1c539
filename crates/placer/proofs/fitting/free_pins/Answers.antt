-- One pin more.
use Rattle.std.proofs.Common.{◌≡◌, ◌<◌, ◌≤◌, ◌+◌, true, false, map, sym, subst, ◌∙◌, arith}
use Rattle.placer.proofs.Common.{view_declared, is_pin_free}
use Rattle.placer.proofs.Free.{IsFreeTo, all_free, free_more, none_free, taken_more}
use Rattle.placer.proofs.fitting.free_pins.Goals.{then-is_pin_free, else-is_pin_free}
use Rattle.placer.proofs.fitting.free_pins.Goals as goal

pub loop-pin-init : goal.loop-pin-init
loop-pin-init g c = none_free g.D.Device.table (map view_declared c.args.names.now)

pub loop-pin-preserved : goal.loop-pin-preserved
loop-pin-preserved g c =
    let t = g.D.Device.table in
    let es = map view_declared c.args.names.now in
    let l = c.loop-pin in
    let small : l.pin < 32 = omega (arith, c.loop-pin-test.true, c.pins-pin-end.ensures, g.D.Device.sound.sizes.pins_high) in
    elim c.if-is_pin_free.branch [
      | then-is_pin_free w ↦ subst (IsFreeTo t es (l.pin + 1)) (sym w.free-is) (free_more t es l.pin l.free w.with_level-free.result small w.with_level-free.ensures (sym c.is_pin_free.ensures ∙ w.if-is_pin_free.true) l.invariant)
      | else-is_pin_free w ↦ subst (IsFreeTo t es (l.pin + 1)) (sym w.free-is) (taken_more t es l.pin l.free small (sym c.is_pin_free.ensures ∙ w.if-is_pin_free.false) l.invariant)
    ]

pub returns : goal.returns
returns g c =
    let t = g.D.Device.table in
    all_free t (map view_declared c.args.names.now) c.loop-pin.pin c.loop-pin.free
    (omega (arith, c.loop-pin-test.false, c.pins-pin-end.ensures)) g.D.Device.sound.sizes.pins_high c.loop-pin.invariant
