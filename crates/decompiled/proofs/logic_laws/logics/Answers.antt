use Rattle.decompiled.proofs.AlikeLogics.{alike}
use Rattle.decompiled.proofs.logic_laws.logics.Goals as goal

pub returns : goal.returns
returns c = alike
