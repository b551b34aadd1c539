-- One pin more; the last is that of the device.
use Rattle.std.proofs.Common.{◌≡◌, ap, ◌∙◌, arith}
use Rattle.pair_commands.proofs.Common.{bits, level_char, q_on}
use Rattle.pair_commands.proofs.PinDigits.{one_more}
use Rattle.pair_commands.proofs.differ_line.put_stored.Goals as goal

pub loop-before-preserved : goal.loop-before-preserved
loop-before-preserved g c =
    one_more (q_on g.D.Device.table (bits 32 c.args.stored)) _ _ _ c.loop-before.before _ c.loop-before.invariant c.in_ok-push.ensures.items
    (c.digit.ensures ∙ ap level_char c.q_on.ensures)

pub returns : goal.returns
returns g c =
    let end : c.loop-before.before ≡ g.D.Device.table.pins =
    omega (arith, c.loop-before-test.false, c.loop-before.auto.before-end, c.pins-before-end.ensures) in
    rw end at c.loop-before.invariant
