-- A new name follows the others.
use Rattle.std.proofs.Common.{◌≡◌, true, None, ◌∷◌, [], ◌++◌, sym, ap, subst, ◌∙◌, is_some, bytes_eq}
use Rattle.placer.proofs.Common.{number_in, none_found, HasSameMark, numbers_named}
use Rattle.std.specs.Map.{lookup}
use Rattle.indexmap.proofs.CallerLemmas.{insert_entry-new}
use Rattle.placer.proofs.Known.{known_name, new_name, some_found}
use Rattle.placer.proofs.marks.Marks.enter.Goals as goal

pub returns-then-is_some : goal.returns-then-is_some
returns-then-is_some c = λ signals numbers ks are has.
    let there : is_some (number_in c.args.self.now.map.entries c.args.name.now) ≡ true = ap is_some (sym c.get.ensures.value) ∙ some_found c.get.result (sym c.is_some.ensures ∙ c.if-is_some.true) in
    known_name signals c.args.self.now.map.entries numbers ks c.args.name.now there are

pub returns : goal.returns
returns c = λ signals numbers ks are has other.
    let rows = c.args.self.now.map.entries in
    let absent : number_in rows c.args.name.now ≡ None = sym c.get.ensures.value ∙ none_found c.get.result (sym c.is_some.ensures ∙ c.if-is_some.false) in
    subst (λ es. HasSameMark signals (numbers_named (ks ++ record { name = c.args.name.now; signals = numbers } ∷ []) other) (number_in es other))
    (sym (c.in_ok-insert.ensures.entries ∙ insert_entry-new _ c.args.self.now.map c.in_ok-key.key _ (ap (λ w. lookup (λ k. bytes_eq w k.items) rows) c.in_ok-key.ensures.items ∙ absent)))
    (new_name signals rows c.in_ok-key.key numbers c.args.mark ks c.args.name.now c.in_ok-key.ensures.items are has other)
