-- One name more: a new name's number follows the others.
use Rattle.std.proofs.Common.{◌≡◌, ◌≤◌, None, true, length, map, arith, sym, ap, ap₂, ◌∙◌, is_some}
use Rattle.declared_names.proofs.Common.{bytes_eq, length-map, view_declared, earlier_number, number_in, number_of_name}
use Rattle.std.specs.Map.{lookup}
use Rattle.indexmap.proofs.CallerLemmas.{insert_entry-new}
use Rattle.declared_names.proofs.Numbering.{below_all, beyond, known_again, names_more, none_found, number_behind, some_copied}
use Rattle.declared_names.proofs.numbers.numbers_of.Goals as goal

pub loop-number-init : goal.loop-number-init
loop-number-init c = λ name. ap (λ es. number_in es name) c.new.ensures.empty ∙ sym (beyond name (map view_declared c.args.names.now) 0 (omega arith))

pub loop-number-preserved-then-is_some : goal.loop-number-preserved-then-is_some
loop-number-preserved-then-is_some c = λ name.
    let l = c.loop-number in
    let rows = l.numbers.map.entries in
    let known : is_some (number_in rows c.bytes-name.result.now) ≡ true = ap is_some (sym c.get.ensures.value) ∙ (some_copied c.get.result ∙ (sym c.is_some.ensures ∙ c.if-is_some.true)) in
    known_again (number_in rows) name c.bytes-name.result.now l.number known
    ∙ (ap₂ (λ o w. earlier_number o (number_of_name w l.number name)) (l.invariant name) c.bytes-name.ensures
    ∙ sym (names_more name c.args.names.now l.number c.index-names-number.result c.loop-number-test.true c.index-names-number.is))

pub loop-number-preserved : goal.loop-number-preserved
loop-number-preserved c = λ name.
    let l = c.loop-number in
    let rows = l.numbers.map.entries in
    let absent : number_in rows c.bytes-name.result.now ≡ None = sym c.get.ensures.value ∙ none_found c.get.result (sym c.is_some.ensures ∙ c.if-is_some.false) in
    ap (λ es. number_in es name)
    (c.in_ok-insert.ensures.entries ∙ insert_entry-new _ l.numbers.map c.in_ok-key.key _ (ap (λ w. lookup (λ k. bytes_eq w k.items) rows) c.in_ok-key.ensures.items ∙ absent))
    ∙ (number_behind rows c.in_ok-key.key l.number name
    ∙ (ap₂ (λ o w. earlier_number o (number_of_name w l.number name)) (l.invariant name) (c.in_ok-key.ensures.items ∙ c.bytes-name.ensures)
    ∙ sym (names_more name c.args.names.now l.number c.index-names-number.result c.loop-number-test.true c.index-names-number.is)))

pub returns : goal.returns
returns c = λ name.
    let es = map view_declared c.args.names.now in
    let whole : length es ≤ c.loop-number.number = omega (arith, c.loop-number-test.false, length-map c.args.names.now view_declared) in
    c.loop-number.invariant name ∙ below_all name es c.loop-number.number whole
