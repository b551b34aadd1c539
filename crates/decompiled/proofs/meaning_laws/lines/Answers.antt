use Rattle.decompiled.proofs.Giving.{gives}
use Rattle.decompiled.proofs.OneLine.{says}
use Rattle.decompiled.proofs.meaning_laws.lines.Goals as goal

pub returns-clause-give : goal.returns-clause-give
returns-clause-give c = gives

pub returns-clause-functions : goal.returns-clause-functions
returns-clause-functions c = says
