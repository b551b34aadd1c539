use Rattle.decompiled.proofs.CellLines.{have}
use Rattle.decompiled.proofs.SumValues.{sums_have}
use Rattle.decompiled.proofs.logic_laws.cells.Goals as goal

pub returns-clause-lines : goal.returns-clause-lines
returns-clause-lines c = have

pub returns-clause-rows : goal.returns-clause-rows
returns-clause-rows c = sums_have
