-- The strings, and then their words.
use Rattle.std.proofs.Common.{map, subst, ap, ap₂, ◌∙◌}
use Rattle.decls.proofs.Common.{on_ok_weaker, all_said, no_words, strings_refused, words_of_names, Shows, view_given, refuse_all, all_told}
use Rattle.decls.proofs.table.NameTable.tell_items.Goals as goal

pub returns : goal.returns
returns c =
    on_ok_weaker c.tell_all.result
    (λ h t s sh.
    subst (Shows t c.tell_all.new.self)
    (ap₂ (λ w xs. all_told w (map view_given c.in_ok-given.given.items) (refuse_all (strings_refused (words_of_names s.entries xs) no_words c.args.attributes.now) s)) c.all_in.ensures (ap (map view_given) c.as_slice.ensures.value)
    ∙ ap (λ xs. all_told (all_said c.args.attributes.now) xs (refuse_all (strings_refused (words_of_names s.entries xs) no_words c.args.attributes.now) s)) c.in_ok-given.ensures)
    (h t _ (c.in_ok-check_said.ensures t s sh)))
    c.tell_all.ensures
