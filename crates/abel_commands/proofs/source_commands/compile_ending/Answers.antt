-- What is compiled goes under OUT, and refusals are reported.
use Rattle.std.proofs.Common.{refl, inl, inr}
use Rattle.abel_commands.proofs.Common.{IfOk-weaker}
use Rattle.abel_commands.proofs.source_commands.compile_ending.Goals as goal

pub returns-in-Ok : goal.returns-in-Ok
returns-in-Ok c = inr (c.requires, inl (c.in-Ok.compiled, c.in-Ok.ensures.answers, refl))

pub returns-in-Err : goal.returns-in-Err
returns-in-Err c = IfOk-weaker c.refused_ending.result _ _ (λ e uncompiled. inr (c.requires, inr uncompiled)) (c.refused_ending.ensures c.args.source.now c.in-Err.ensures.answers)
