use Rattle.decompiled.proofs.SaidRuns.{say_what_they_do}
use Rattle.decompiled.proofs.run_laws.runs.Goals as goal

pub returns : goal.returns
returns c = say_what_they_do
