-- A name that has a row, and one that hasn't.
use Rattle.std.proofs.Common.{length}
use Rattle.expr_bits.proofs.Common.{entries_of}
use Rattle.expr_bits.proofs.NamesBefore.{named_none}
use Rattle.expr_bits.proofs.ReadLaws.{nothing_read}
use Rattle.expr_bits.proofs.RowLaws.{named_reads}
use Rattle.expr_bits.proofs.rows.text_reads.Goals as goal

pub returns-in-Some : goal.returns-in-Some
returns-in-Some c d h = rw c.reads_at.ensures (named_reads (entries_of c.args.scope.now) d c.args.rows.now c.args.text.now c.in-Some.name.number h c.in-Some.ensures.place)

pub returns-in-None : goal.returns-in-None
returns-in-None c d h = rw (c.none.ensures, named_none (length c.args.rows.now) (entries_of c.args.scope.now) c.args.text.now c.in-None.ensures.place) (nothing_read d 0)
