-- The bytes read are the first ones ahead.
use Rattle.std.proofs.Common.{sym, ap, ◌∙◌}
use Rattle.abel_macros.proofs.Common.{ahead}
use Rattle.abel_macros.proofs.Measured.{voltage_seen}
use Rattle.abel_macros.proofs.tokens.voltage_special_at.Goals as goal

pub returns-clause-value : goal.returns-clause-value
returns-clause-value c =
    c.voltage_special_len.ensures
    ∙ voltage_seen c.in-Some.first c.in-Some-step.second c.in-Some-step-2.third c.in-Some-step-3.fourth c.in-Some-step-4.fifth (ahead c.args.at.now) (ahead c.step.new.self) (ahead c.step-2.new.self) (ahead c.step-3.new.self) (ahead c.step-4.new.self) (ahead c.step-5.new.self) (ap ahead (sym c.fork-look.ensures) ∙ c.in-Some.ensures.some) c.in-Some-step.ensures.some c.in-Some-step-2.ensures.some c.in-Some-step-3.ensures.some c.in-Some-step-4.ensures.some
