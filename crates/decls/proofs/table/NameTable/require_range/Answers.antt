-- The names of a range whose ends agree must be known; other ends are refused.
use Rattle.std.proofs.Common.{map, subst, sym, ap, ap₂, ◌∙◌, option_map}
use Rattle.decls.proofs.Common.{is_value, name_items, names_if_agree, all_known, Shows}
use Rattle.decls.proofs.Required.{range_known, range_bad}
use Rattle.decls.proofs.table.NameTable.require_range.Goals as goal

pub returns-in_ok-require_all-in-Some : goal.returns-in_ok-require_all-in-Some
returns-in_ok-require_all-in-Some c = λ m s sh.
    subst (Shows m c.require_all.new.self)
    (ap (λ l. all_known is_value c.args.first.now.place (map name_items l) s) c.as_slice.ensures.value
    ∙ range_known c.args.first.now c.args.last.now s (map name_items c.in-Some.names.items)
    (sym (ap (option_map (λ ns. map name_items ns.items)) c.in-Some.is) ∙ (c.in_ok-names.ensures ∙ ap₂ names_if_agree c.bytes.ensures c.bytes-2.ensures)))
    (c.in_ok-require_all-in-Some.ensures m s sh)

pub returns-in-None : goal.returns-in-None
returns-in-None c = λ m s sh.
    subst (Shows m c.refuse.new.self)
    (range_bad c.args.first.now c.args.last.now s
    (sym (ap (option_map (λ ns. map name_items ns.items)) c.in-None.is) ∙ (c.in_ok-names.ensures ∙ ap₂ names_if_agree c.bytes.ensures c.bytes-2.ensures)))
    (c.refuse.ensures m s sh)
