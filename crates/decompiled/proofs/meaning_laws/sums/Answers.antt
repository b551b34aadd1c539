use Rattle.decompiled.proofs.SumBits.{sums}
use Rattle.decompiled.proofs.meaning_laws.sums.Goals as goal

pub returns : goal.returns
returns c = sums
