use Rattle.decompiler.proofs.RoundTrips.{run_alike}
use Rattle.decompiler.proofs.compile_laws.recompiled_runs.Goals as goal

pub returns : goal.returns
returns c = run_alike c.sources_are_right.ensures
