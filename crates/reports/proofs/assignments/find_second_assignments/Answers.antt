-- A statement that assigns a name is reported or seen, and another one is passed.
use Rattle.std.proofs.Common.{◌+◌, ◌++◌, List, option_map, sym, ap, ap₂, ◌∙◌}
use Rattle.abel_tree.specs.declared.words.Word.{Word}
use Rattle.reports.specs.Warnings.{seconds}
use Rattle.reports.specs.declared.warning.Warning.{Warning}
use Rattle.reports.proofs.WarnedNames.{names_at, names_from, names_more, names_skip}
use Rattle.reports.proofs.assignments.find_second_assignments.Goals.{in-Some+in_ok-find_second, in_default}
use Rattle.reports.proofs.assignments.find_second_assignments.Goals as goal

pub loop-statement-preserved : goal.loop-statement-preserved
loop-statement-preserved c =
    let l = c.loop-statement in
    let list = c.args.statements.now in
    let next = l.statement-index + 1 in
    elim c.match-target.branch [
      | in-Some+in_ok-find_second w ↦
          let more = names_more list l.statement-index c.statement-item.result w.in-Some.word.now c.loop-statement-test.true (sym c.statement-item.is) (ap (option_map (λ x. x.now)) (sym w.in-Some.is) ∙ c.target.ensures) in
          ap₂ (λ (found : List Warning) (seen : _). found ++ seconds (names_at seen) (names_from list next)) w.found-is (ap (λ v. v.items) w.seen-is)
          ∙ (w.in_ok-find_second.ensures (names_from list next)
          ∙ (ap (λ (ws : List Word). l.found ++ seconds (names_at l.seen.items) ws) (sym more) ∙ l.invariant))
      | in_default w ↦
          let same = names_skip list l.statement-index c.statement-item.result c.loop-statement-test.true (sym c.statement-item.is) (ap (option_map (λ x. x.now)) (sym w.in_default.is) ∙ c.target.ensures) in
          ap₂ (λ (found : List Warning) (seen : _). found ++ seconds (names_at seen) (names_from list next)) w.found-is (ap (λ v. v.items) w.seen-is)
          ∙ (ap (λ (ws : List Word). l.found ++ seconds (names_at l.seen.items) ws) (sym same) ∙ l.invariant)
    ]
