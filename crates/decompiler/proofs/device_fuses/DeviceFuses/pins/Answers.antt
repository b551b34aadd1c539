use Rattle.std.proofs.Common.{◌≡◌, ◌+◌, ◌∙◌, arith}
use Rattle.decompiler.proofs.Common.{list_any, range_with_len, names_pin, pin_line, pin_if_named}
use Rattle.decompiler.proofs.Ranges.{more_given, given_chosen}
use Rattle.decompiler.proofs.device_fuses.DeviceFuses.pins.Goals as goal

pub loop-before-preserved : goal.loop-before-preserved
loop-before-preserved g c =
    more_given (pin_if_named g.D.Device.table c.args.self.now c.args.lines.now) 1 c.loop-before.before (c.loop-before.before + 1) c.loop-before.pins.items _
    c.loop-before.invariant c.in_ok-push_if_named.ensures (omega arith)

pub returns : goal.returns
returns g c =
    let t = g.D.Device.table in
    let end : c.loop-before.before ≡ t.pins = omega (arith, c.loop-before-test.false, c.loop-before.auto.before-end, c.pins-before-end.ensures) in
    c.loop-before.invariant
    ∙ (rw end (given_chosen (λ pin. list_any (names_pin pin) c.args.lines.now) (pin_line t c.args.self.now) (range_with_len 1 t.pins)))
