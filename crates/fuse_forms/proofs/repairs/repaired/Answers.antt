-- One finding more, and the text that follows from it.
use Rattle.std.proofs.Common.{ℕ, List, subst}
use Rattle.fuse_forms.proofs.InTurn.{harmless_last, repaired_last}
use Rattle.fuse_forms.specs.Repairs.{IsRepaired}
use Rattle.fuse_forms.proofs.repairs.repaired.Goals as goal

pub loop-turn-preserved : goal.loop-turn-preserved
loop-turn-preserved g c =
    let findings = c.loop-turn.findings.items in
    let next = c.in-Some.next in
    let is = rw c.in-Some.is at c.in_ok-next.ensures.is in
    let harmless = rw c.in-Some.is at c.in_ok-next.ensures.harmless in
    record {
      are = rw c.in_ok-push.ensures.items
          (repaired_last findings next.finding _ c.loop-turn.text.items _ c.loop-turn.invariant.are
          (subst (λ (t : List ℕ). IsRepaired next.finding t next.text.items) c.deref-in-loop-turn.ensures.value is));
      harmless = λ mends. rw c.in_ok-push.ensures.items (harmless_last findings next.finding (c.loop-turn.invariant.harmless mends) (harmless mends));
    }
