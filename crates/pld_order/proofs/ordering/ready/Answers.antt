use Rattle.std.proofs.Common.{◌≡◌, false, [], get_or, refl, sym, ◌∙◌, subst, below_more}
use Rattle.pld_order.proofs.Common.{false≢true, is_on, IsWithin}
use Rattle.pld_order.proofs.DoneSets.{set_at}
use Rattle.pld_order.proofs.ordering.ready.Goals as goal
use Rattle.pld_order.proofs.ordering.ready.Goals.{else-not-contains-via-then-not-contains+else-is_within, else-not-contains-via-else-not-contains}

pub loop-v-preserved : goal.loop-v-preserved
loop-v-preserved c =
    below_more (λ w. is_on c.args.done.now w ≡ false → IsWithin (get_or c.args.reads.now w []) c.args.done.now → ⊥) c.loop-v.v c.loop-v.invariant
    (elim c.else-not-contains.branch [
      | else-not-contains-via-then-not-contains+else-is_within w ↦ λ off within. false≢true (sym w.if-is_within.false ∙ w.is_within.ensures.1 (subst (λ xs. IsWithin xs c.args.done.now) (sym (set_at c.args.reads.now c.loop-v.v c.loop-v.v w.index-reads-v.result c.loop-v-test.true refl w.index-reads-v.is)) within))
      | else-not-contains-via-else-not-contains w ↦ λ off within. false≢true (sym off ∙ (sym c.contains.ensures ∙ w.if-not-contains.false))
    ])
