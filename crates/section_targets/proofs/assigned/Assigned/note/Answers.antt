use Rattle.std.proofs.Common.{sym, ap, subst, ◌∙◌, ◌++◌, ◌∷◌, []}
use Rattle.section_targets.proofs.Common.{AreFirsts}
use Rattle.section_targets.proofs.Looks.{firsts_stay, firsts_push}
use Rattle.section_targets.proofs.assigned.Assigned.note.Goals as goal

pub returns-in-Some : goal.returns-in-Some
returns-in-Some c = λ all h. firsts_stay _ all c.args.manner c.in-Some.field-0 h (sym c.in-Some.is ∙ c.first.ensures)

pub returns-in_ok-push-in-None : goal.returns-in_ok-push-in-None
returns-in_ok-push-in-None c = λ all h.
    let kept = c.in_ok-push-in-None.ensures.items ∙ ap (λ ms. ms ++ c.args.manner ∷ []) c.self.view_is in
    subst (λ ms. AreFirsts ms (all ++ c.args.manner ∷ [])) (sym kept) (firsts_push c.args.self.now all c.args.manner h)
