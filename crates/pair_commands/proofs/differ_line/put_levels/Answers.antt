-- One pin more; each pin is below 32, and the last is that of the device.
use Rattle.std.proofs.Common.{◌≡◌, ap, ◌∙◌, arith}
use Rattle.pair_commands.proofs.Common.{bits, is_on, level_char}
use Rattle.pair_commands.proofs.PinDigits.{one_more}
use Rattle.pair_commands.proofs.differ_line.put_levels.Goals as goal

pub level_at-requires : goal.level_at-requires
level_at-requires g c = omega (arith, c.loop-before-test.true, c.pins-before-end.ensures, g.D.Device.sound.sizes.pins_high)

pub loop-before-preserved : goal.loop-before-preserved
loop-before-preserved g c =
    one_more (is_on (bits 32 c.args.outside)) _ _ _ c.loop-before.before _ c.loop-before.invariant c.in_ok-push.ensures.items
    (c.digit.ensures ∙ ap level_char c.level_at.ensures)

pub returns : goal.returns
returns g c =
    let end : c.loop-before.before ≡ g.D.Device.table.pins =
    omega (arith, c.loop-before-test.false, c.loop-before.auto.before-end, c.pins-before-end.ensures) in
    rw end at c.loop-before.invariant
