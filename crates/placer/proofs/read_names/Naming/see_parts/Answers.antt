-- One part more.
use Rattle.std.proofs.Common.{[], ◌∷◌, refl, arith}
use Rattle.placer.proofs.Common.{view_part}
use Rattle.placer.proofs.Joins.{no_parts, parts_all, parts_more}
use Rattle.placer.proofs.read_names.Naming.see_parts.Goals as goal

pub loop-part-init : goal.loop-part-init
loop-part-init c = no_parts c.args.self.now _ refl refl

pub loop-part-preserved : goal.loop-part-preserved
loop-part-preserved c =
    let l = c.loop-part in
    parts_more c.args.self.now (λ ps. ps) (λ p. p ∷ []) (λ ps p. refl) view_part c.args.parts.now l.part-index c.part-item.result _ _ _ c.loop-part-test.true c.part-item.is c.both-seen.ensures l.invariant c.in_ok-see_part.ensures

pub returns : goal.returns
returns c = parts_all c.args.self.now (λ ps. ps) view_part c.args.parts.now c.loop-part.part-index _ (omega (arith, c.loop-part-test.false)) c.loop-part.invariant
