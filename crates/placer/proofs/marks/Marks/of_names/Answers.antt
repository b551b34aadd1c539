-- One name more.
use Rattle.std.proofs.Common.{ap, arith}
use Rattle.placer.proofs.Common.{signals_of_name, signals_of_names, name_items}
use Rattle.placer.proofs.Joins.{no_numbers, numbers_all, numbers_more, numbers_same}
use Rattle.placer.proofs.Targeted.{names_push}
use Rattle.placer.proofs.marks.Marks.of_names.Goals as goal

pub loop-name-init : goal.loop-name-init
loop-name-init c = no_numbers c.args.self.now

pub loop-name-preserved : goal.loop-name-preserved
loop-name-preserved c =
    let l = c.loop-name in
    let one = numbers_same c.args.self.now (λ ks. signals_of_name ks c.as_slice.result.now) (λ ks. signals_of_name ks (name_items c.name-item.result)) c.of_name.result (λ ks. ap (signals_of_name ks) c.as_slice.ensures.value) c.of_name.ensures in
    numbers_more c.args.self.now signals_of_names signals_of_name names_push name_items c.args.names.now l.name-index c.name-item.result l.mark c.of_name.result c.joined-mark.result
    c.loop-name-test.true c.name-item.is c.joined-mark.ensures l.invariant one

pub returns : goal.returns
returns c = numbers_all c.args.self.now signals_of_names name_items c.args.names.now c.loop-name.name-index c.loop-name.mark (omega (arith, c.loop-name-test.false)) c.loop-name.invariant
