-- One name more.
use Rattle.declared_names.proofs.Common.{marked, numbers_read, use_reads, view_use}
use Rattle.declared_names.proofs.ReadsAlike.{flat_next}
use Rattle.declared_names.proofs.numbers.FirstNames.mark_uses.Goals as goal

pub loop-used-preserved : goal.loop-used-preserved
loop-used-preserved c = λ es num.
    let l = c.loop-used in
    flat_next marked (use_reads (numbers_read c.args.self.now.limit es) c.args.strong) view_use c.args.marks.now.items l.marks.items c.mark_use.new.marks.items c.args.uses.now l.used-index c.used-item.result c.loop-used-test.true c.used-item.is
    (l.invariant es num) (c.in_ok-mark_use.ensures es num)
