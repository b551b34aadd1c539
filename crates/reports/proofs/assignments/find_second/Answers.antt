-- A name that was seen is reported, and another one is seen from then on.
use Rattle.std.proofs.Common.{◌≡◌, ◌++◌, ◌∷◌, [], Bor, List, ℕ, sym, ap, ◌∙◌}
use Rattle.std.proofs.lemmas.List.{map_push}
use Rattle.reports.specs.Warnings.{seconds, warned}
use Rattle.reports.specs.declared.warning.Cause.TheVariants.{SecondAssignment}
use Rattle.reports.specs.declared.warning.Warning.{Warning}
use Rattle.reports.proofs.WarnedNames.{names_at, second_seen, second_told, seen_as}
use Rattle.reports.proofs.assignments.find_second.Goals as goal

pub returns-in_ok-add : goal.returns-in_ok-add
returns-in_ok-add c ws =
    let w = c.args.word.now in
    let found = c.args.found.now in
    let seen = c.args.seen.now.items in
    let is = seen_as w.text c.bytes-name.result.now seen c.deref.result.now c.is_seen.result c.bytes-name.ensures c.deref.ensures.value c.is_seen.ensures in
    ap (λ (xs : List Warning). xs ++ seconds (names_at seen) ws) (c.in_ok-add.ensures ∙ ap (λ (n : List ℕ). found ++ warned SecondAssignment w.place n ∷ []) c.bytes-name.ensures)
    ∙ second_told (names_at seen) w ws found (sym c.if-is_seen.true ∙ is)

pub returns-in_ok-push : goal.returns-in_ok-push
returns-in_ok-push c ws =
    let w = c.args.word.now in
    let found = c.args.found.now in
    let seen = c.args.seen.now.items in
    let is = seen_as w.text c.bytes-name.result.now seen c.deref.result.now c.is_seen.result c.bytes-name.ensures c.deref.ensures.value c.is_seen.ensures in
    let pushed : names_at c.push.new.self.items ≡ names_at seen ++ w.text ∷ [] =
    ap names_at c.in_ok-push.ensures.items ∙ (map_push (λ (s : Bor (List ℕ)). s.now) seen c.bytes-name.result ∙ ap (λ (n : List ℕ). names_at seen ++ n ∷ []) c.bytes-name.ensures) in
    ap (λ (xs : List (List ℕ)). found ++ seconds xs ws) pushed
    ∙ second_seen (names_at seen) w ws found (sym c.if-is_seen.false ∙ is)
