use Rattle.pld_device.proofs.RowReads.{row_same}
use Rattle.pld_device.proofs.RowValues.{row_is_true-columns}
use Rattle.pld_device.proofs.laws.rows.Goals as goal

pub returns-clause-columns : goal.returns-clause-columns
returns-clause-columns c fuses columns = row_is_true-columns fuses columns

pub returns-clause-reads : goal.returns-clause-reads
returns-clause-reads c t wide fuses row a b same = row_same t fuses row a b wide same
