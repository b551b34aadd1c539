-- One name, and the names of a range.
use Rattle.std.proofs.Common.{◌≡◌, ◌∷◌, [], length, map, option_map, take, sym, ap, ap₂, ◌∙◌, subst}
use Rattle.expr_bits.proofs.Common.{list_any, or-false, entries_of, range_names, known_of, term_named, name_items, IsReads, inside, named_answer, names_to}
use Rattle.name_uses.specs.Viewed.{word_at}
use Rattle.expr_bits.proofs.rows.used_reads.Goals as goal

pub returns-in-None : goal.returns-in-None
returns-in-None c d h q =
    let known = known_of (take (length c.args.rows.now) (entries_of c.args.scope.now)) in
    let used = c.args.used.now in
    let text = used.first.now.text in
    let one : names_to used.first.now (option_map word_at used.last) ≡ text ∷ [] = ap (λ o. names_to used.first.now (option_map word_at o)) c.in-None.is in
    let here = subst (λ w. IsReads d c.text_reads.result (term_named known w)) c.bytes-first.ensures (c.text_reads.ensures d h) in
    let x = inside used.extension q in
    c.under.ensures q ∙ here x ∙ sym (or-false (named_answer d known x text)) ∙ ap (list_any (named_answer d known x)) (sym one)

pub returns-in_ok-names-in-Some : goal.returns-in_ok-names-in-Some
returns-in_ok-names-in-Some c d h q =
    let known = known_of (take (length c.args.rows.now) (entries_of c.args.scope.now)) in
    let used = c.args.used.now in
    let all : map name_items c.as_slice.result.now ≡ names_to used.first.now (option_map word_at used.last) =
    ap (map name_items) c.as_slice.ensures.value ∙ (c.in_ok-names-in-Some.ensures ∙ ap₂ range_names c.bytes-first.ensures c.bytes.ensures)
    ∙ ap (λ o. names_to used.first.now (option_map word_at o)) (sym c.in-Some.is) in
    let x = inside used.extension q in
    c.under-in-Some.ensures q ∙ c.list_reads.ensures d h x ∙ ap (list_any (named_answer d known x)) all
