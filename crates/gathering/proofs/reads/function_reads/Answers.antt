use Rattle.gathering.proofs.reads.function_reads.Goals as goal

pub returns : goal.returns
returns c = c.both.ensures _ _ c.reads.ensures c.reads-2.ensures
