use Rattle.decompiled.proofs.Declared.{declares}
use Rattle.decompiled.proofs.KnownPins.{knows}
use Rattle.decompiled.proofs.meaning_laws.names.Goals as goal

pub returns-clause-declared : goal.returns-clause-declared
returns-clause-declared c = declares

pub returns-clause-known : goal.returns-clause-known
returns-clause-known c = knows
