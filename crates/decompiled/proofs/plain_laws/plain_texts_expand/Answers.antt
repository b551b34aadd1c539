use Rattle.decompiled.proofs.Expands.{expands}
use Rattle.decompiled.proofs.Scans.{scans}
use Rattle.decompiled.proofs.plain_laws.plain_texts_expand.Goals as goal

pub returns-clause-expand : goal.returns-clause-expand
returns-clause-expand c = expands

pub returns-clause-tokens : goal.returns-clause-tokens
returns-clause-tokens c = scans
