use Rattle.std.proofs.Common.{◌<◌, length, inl, inr, sym, ◌∙◌, arith}
use Rattle.device_sim.proofs.Common.{cases_Bool, level_for}
use Rattle.device_sim.proofs.Outsides.{at_pins_none, at_pins_more, at_pins_off}
use Rattle.device_sim.proofs.outside.outside_of.Goals as goal

pub loop-index-init : goal.loop-index-init
loop-index-init c = at_pins_none (level_for c.args.turned c.args.default)

pub loop-index-preserved : goal.loop-index-preserved
loop-index-preserved c =
    let level = level_for c.args.turned c.args.default in
    let within : c.loop-index.index < length c.args.chars.now = omega arith in
    elim (cases_Bool c.level_of-on.result) [
      | inl on ↦
          rw (c.with_one-levels.ensures.on on, c.loop-index.invariant, sym on, c.level_of-on.ensures)
          (at_pins_more level c.args.chars.now c.loop-index.index within c.requires)
      | inr off ↦
          rw (c.with_one-levels.ensures.off off)
          (c.loop-index.invariant ∙ at_pins_off level c.args.chars.now c.loop-index.index within c.requires (sym c.level_of-on.ensures ∙ off))
    ]
