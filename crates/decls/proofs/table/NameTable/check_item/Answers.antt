-- A bad range, and then the first name that is no signal.
use Rattle.std.proofs.Common.{map, subst, sym, ap, ◌∙◌}
use Rattle.decls.proofs.Common.{on_ok_weaker, is_signal, Shows, all_known, refuse_all, refused_if, item_refused, is_bad, name_items}
use Rattle.decls.specs.declared.fault.NameFault.TheVariants as fault
use Rattle.decls.proofs.FirstStays.{at_behind, at_item}
use Rattle.decls.proofs.LeftOut.{shows_behind}
use Rattle.decls.proofs.Unknown.{item_known}
use Rattle.decls.proofs.table.NameTable.check_item.Goals as goal

pub returns-then-is_behind : goal.returns-then-is_behind
returns-then-is_behind c = λ t s sh.
    let o = c.args.self.now.fault in
    let i = c.args.item.now in
    shows_behind t c.args.self.now s (item_refused s.entries i)
    (at_behind o i.first.place (item_refused s.entries i) (sym c.is_behind.ensures ∙ c.if-is_behind.true) (at_item s.entries i)) sh

pub returns : goal.returns
returns c =
    on_ok_weaker c.require_all.result
    (λ h m s sh.
    subst (Shows m c.require_all.new.self)
    (ap (λ ns. all_known is_signal c.args.item.now.first.place ns (refuse_all (refused_if (is_bad c.args.item.now) (fault.BadRange c.args.item.now.first.place)) s)) (ap (map name_items) c.as_slice.ensures.value ∙ c.in_ok-names.ensures) ∙ item_known s c.args.item.now)
    (h m _ (c.refuse_range.ensures m s sh)))
    c.require_all.ensures
