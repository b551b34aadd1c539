-- One name of a range more, and all of them.
use Rattle.std.proofs.Common.{map, sym, ap, ap₂, ◌∙◌, option_map}
use Rattle.design_checks.proofs.Common.{option_or, range_names, extended_if, term_named, name_items, term_uses, whole_front, first_read, names_read, read_of, word_at, names_to}
use Rattle.design_checks.proofs.JoinedFirsts.{joined_more, read_append}
use Rattle.design_checks.proofs.reads.first_used.Goals as goal

pub loop-name-preserved : goal.loop-name-preserved
loop-name-preserved c d knows =
    let l = c.loop-name in
    let e = c.innermost-extension.result in
    let r = c.args.names.now.rule in
    c.or-signal.ensures
    ∙ ap₂ option_or (l.invariant d knows) (c.read-in-loop-name.ensures d knows ∙ ap (λ w. read_of r d (term_named d.known w) e) c.as_slice.ensures.value)
    ∙ joined_more (first_read r d) option_or (read_append r d) name_items (λ n. term_uses (extended_if e (term_named d.known n))) c.deref-name-items.result.now l.name-index c.name-item.result c.loop-name-test.true c.name-item.is

pub returns-after-loop-name : goal.returns-after-loop-name
returns-after-loop-name c d knows =
    let r = c.args.names.now.rule in
    let u = c.args.used.now in
    let all = whole_front name_items c.deref-name-items.result.now c.loop-name.name-index c.loop-name-test.false ∙ ap (map name_items) c.deref-name-items.ensures.value ∙ c.in_ok-list-in-Some.ensures ∙ ap₂ range_names c.bytes-first.ensures c.bytes.ensures in
    c.loop-name.invariant d knows
    ∙ ap (λ ns. first_read r d (names_read d.known c.innermost-extension.result ns)) all
    ∙ ap₂ (λ e o. first_read r d (names_read d.known e (names_to u.first.now o))) c.innermost-extension.ensures (ap (option_map word_at) (sym c.in-Some.is))
