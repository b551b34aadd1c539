-- A name, or each name of a range.
use Rattle.std.proofs.Common.{◌≡◌, ◌≤◌, map, length, sym, ap, ap₂, ◌∙◌, arith, option_map}
use Rattle.declared_names.proofs.Common.{take_all, asks_q, read_names, range_names, all_marked, marked, numbers_read, reads_to, name_items, word_at}
use Rattle.declared_names.proofs.ReadsAlike.{folded_next, names_push}
use Rattle.declared_names.proofs.numbers.FirstNames.mark_use.Goals as goal

pub returns-in_default : goal.returns-in_default
returns-in_default c = λ es num.
    let of = numbers_read c.args.self.now.limit es in
    let u = c.args.used.now in
    c.mark_name.ensures es num
    ∙ ap (all_marked c.args.marks.now.items)
    (ap₂ (λ w q. of w q) c.bytes-first.ensures c.asks_q-asked.ensures
    ∙ ap (λ l. reads_to of (asks_q c.args.strong u.extension) u.first.now (option_map word_at l)) (sym c.in_default.is))

pub loop-name-preserved : goal.loop-name-preserved
loop-name-preserved c = λ es num.
    let l = c.loop-name in
    let of = numbers_read c.args.self.now.limit es in
    let asked = c.asks_q-asked.result in
    folded_next marked (read_names of asked) (λ w. of w asked) (names_push of asked) name_items c.args.marks.now.items l.marks.items c.mark_name-in-loop-name.new.marks.items c.as_slice-names.result.now l.name-index c.name-item.result c.loop-name-test.true c.name-item.is
    (l.invariant es num) (c.mark_name-in-loop-name.ensures es num ∙ ap (λ w. all_marked l.marks.items (of w asked)) c.as_slice.ensures.value)

pub returns : goal.returns
returns c = λ es num.
    let l = c.loop-name in
    let of = numbers_read c.args.self.now.limit es in
    let u = c.args.used.now in
    let names = c.as_slice-names.result.now in
    let whole : length names ≤ l.name-index = omega (arith, c.loop-name-test.false) in
    let range : map name_items names ≡ range_names u.first.now.text c.in-Some.last.now.text =
    ap (map name_items) c.as_slice-names.ensures.value ∙ (c.in_ok-range.ensures ∙ ap₂ range_names c.bytes-first.ensures c.bytes.ensures) in
    l.invariant es num
    ∙ ap (all_marked c.args.marks.now.items)
    (ap (λ ns. read_names of c.asks_q-asked.result (map name_items ns)) (take_all l.name-index names whole)
    ∙ (ap₂ (λ q ns. read_names of q ns) c.asks_q-asked.ensures range
    ∙ ap (λ l. reads_to of (asks_q c.args.strong u.extension) u.first.now (option_map word_at l)) (sym c.in-Some.is)))
