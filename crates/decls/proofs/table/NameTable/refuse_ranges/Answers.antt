-- One item more.
use Rattle.std.proofs.Common.{subst}
use Rattle.decls.proofs.Common.{Item, is_bad, refused_if, ranges_refused, Shows}
use Rattle.decls.proofs.Folded.{refused_more, ranges_push}
use Rattle.decls.specs.declared.fault.NameFault.TheVariants as fault
use Rattle.decls.proofs.table.NameTable.refuse_ranges.Goals as goal

pub loop-item-preserved : goal.loop-item-preserved
loop-item-preserved c = λ m s sh.
    let l = c.loop-item in
    subst (Shows m c.refuse_range.new.self) (refused_more ranges_refused (λ (i : Item). refused_if (is_bad i) (fault.BadRange i.first.place)) ranges_push s c.args.items.now l.item-index c.item-item.result c.loop-item-test.true c.item-item.is) (c.refuse_range.ensures m _ (l.invariant m s sh))
