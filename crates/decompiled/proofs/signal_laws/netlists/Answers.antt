use Rattle.decompiled.proofs.FusesNetlists.{netlists_of_fuses}
use Rattle.decompiled.proofs.signal_laws.netlists.Goals as goal

pub returns : goal.returns
returns c = netlists_of_fuses
