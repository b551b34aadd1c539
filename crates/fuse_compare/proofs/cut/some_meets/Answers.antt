use Rattle.std.proofs.Common.{◌≡◌, true, get_or, ap, subst, ◌∙◌, arith, inl, inr}
use Rattle.fuse_compare.proofs.Common.{cases_lt, false_from_ne_true, get_or_default, holds}
use Rattle.fuse_compare.proofs.Decided.{none_holds}
use Rattle.fuse_compare.proofs.cut.some_meets.Goals as goal

pub loop-mask-preserved : goal.loop-mask-preserved
loop-mask-preserved c = λ at is decided k d low. elim (cases_lt k c.loop-mask.mask-index) [
  | inl earlier ↦ c.loop-mask.invariant at is decided k d earlier
  | inr last ↦
      let same : k ≡ c.loop-mask.mask-index = omega (arith, low, last) in
      false_from_ne_true _ (λ held.
      c.meets.ensures c.if-meets.false at is
      (ap (λ mask. holds mask at) (get_or_default c.args.masks.now c.loop-mask.mask-index _ d c.loop-mask-test.true) ∙ subst (λ n. holds (get_or c.args.masks.now n d) at ≡ true) same held)
      decided)
]

pub returns : goal.returns
returns c = λ none at is decided. none_holds c.args.masks.now at (λ k d low. c.loop-mask.invariant at is decided k d (omega (arith, low, c.loop-mask-test.false)))
