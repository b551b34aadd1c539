use Rattle.decompiled.proofs.RowValues.{products}
use Rattle.decompiled.proofs.PairReads.{reads}
use Rattle.decompiled.proofs.row_laws.rows.Goals as goal

pub returns-clause-products : goal.returns-clause-products
returns-clause-products c = products

pub returns-clause-reads : goal.returns-clause-reads
returns-clause-reads c = reads
