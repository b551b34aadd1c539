-- One name more.
use Rattle.std.proofs.Common.{subst}
use Rattle.placer.proofs.Common.{AreMarks}
use Rattle.placer.proofs.Names.{named_more, read_more}
use Rattle.placer.proofs.read_names.naming_of.Goals as goal

pub loop-number-preserved : goal.loop-number-preserved
loop-number-preserved c =
    let l = c.loop-number in
    let names = c.args.names.now in
    let d = c.index-names-number.result in
    record {
      reading = subst (λ ks. AreMarks c.args.signals.now ks c.enter.new.self.reading) (read_more names l.number d c.loop-number-test.true c.index-names-number.is) (c.in_ok-enter.ensures.reading _ l.invariant.reading);
      targets = subst (λ ks. AreMarks c.args.signals.now ks c.enter.new.self.targets) (named_more names l.number d c.loop-number-test.true c.index-names-number.is) (c.in_ok-enter.ensures.targets _ l.invariant.targets);
    }
