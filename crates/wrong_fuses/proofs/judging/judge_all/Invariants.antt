use Rattle.jedec_reader.specs.Contents.{contents}
use Rattle.wrong_fuses.proofs.JudgedBelow.{JudgedBelow}
use Rattle.wrong_fuses.proofs.judging.judge_all.Given as goal

abbrev pub invariant-loop-fuse : goal.invariant-loop-fuse
invariant-loop-fuse g l = JudgedBelow g.D.Device.table (contents g.D.Device.table l.file) l.fuse l.list.items
