-- One name more.
use Rattle.std.proofs.Common.{arith}
use Rattle.placer.proofs.Common.{flat_map, view_use, signals_at}
use Rattle.placer.proofs.Joins.{no_numbers, numbers_all, numbers_more}
use Rattle.placer.proofs.Mapped.{flat_push}
use Rattle.placer.proofs.marks.Marks.of_uses.Goals as goal

pub loop-used-init : goal.loop-used-init
loop-used-init c = no_numbers c.args.self.now

pub loop-used-preserved : goal.loop-used-preserved
loop-used-preserved c =
    let l = c.loop-used in
    numbers_more c.args.self.now (λ ks us. flat_map (signals_at ks) us) signals_at (λ ks. flat_push (signals_at ks)) view_use c.args.uses.now l.used-index c.used-item.result _ _ _
    c.loop-used-test.true c.used-item.is c.joined-mark.ensures l.invariant c.in_ok-of_use.ensures

pub returns : goal.returns
returns c = numbers_all c.args.self.now (λ ks us. flat_map (signals_at ks) us) view_use c.args.uses.now c.loop-used.used-index _ (omega (arith, c.loop-used-test.false)) c.loop-used.invariant
