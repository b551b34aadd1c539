use Rattle.std.proofs.Common.{◌+◌, ◌∙◌, subst, sym}
use Rattle.jedec_reader.specs.Contents.{contents}
use Rattle.wrong_fuses.proofs.JudgedBelow.{JudgedBelow, judged_more, judged_passed}
use Rattle.wrong_fuses.proofs.judging.judge_all.Goals as goal
use Rattle.wrong_fuses.proofs.judging.judge_all.Goals.{then-is_fault+in_ok-judge_fuse+in_ok-push, else-is_fault}

pub loop-fuse-preserved : goal.loop-fuse-preserved
loop-fuse-preserved g c =
    let t = g.D.Device.table in
    let file = contents t c.args.file.now in
    let list = c.loop-fuse.list.items in
    let n = c.loop-fuse.fuse in
    elim c.if-is_fault.branch [
      | then-is_fault+in_ok-judge_fuse+in_ok-push w ↦
          subst (λ l. JudgedBelow t file (n + 1) l.items) (sym w.list-is)
          (subst (JudgedBelow t file (n + 1)) (sym w.in_ok-push.ensures.items)
          (judged_more t file n list c.loop-fuse.invariant (sym c.is_fault.ensures ∙ w.if-is_fault.true) w.in_ok-judge_fuse.field-0 w.in_ok-judge_fuse.ensures.judged w.in_ok-judge_fuse.ensures.fuse))
      | else-is_fault w ↦
          subst (λ l. JudgedBelow t file (n + 1) l.items) (sym w.list-is) (judged_passed t file n list c.loop-fuse.invariant (sym c.is_fault.ensures ∙ w.if-is_fault.false))
    ]
