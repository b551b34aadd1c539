-- What isn't one of the names represents no signal.
use Rattle.std.proofs.Common.{◌≡◌, subst, ◌∙◌}
use Rattle.design_checks.proofs.Common.{entries_of, term_named, uses_of}
use Rattle.design_checks.proofs.PlacedNames.{value_in, value_named}
use Rattle.design_checks.proofs.names.KeptUses.get.Goals as goal

pub returns-in-None : goal.returns-in-None
returns-in-None c d knows =
    let kept = c.args.self.now in
    let of = uses_of kept.rule d in
    c.none.ensures
    ∙ subst (λ o. value_in of kept.list.now o ≡ of (term_named d.known c.args.text.now)) c.in-None.ensures.place
    (value_named of (entries_of kept.scope.now) kept.list.now d.known c.args.text.now knows)

pub returns-in-Some : goal.returns-in-Some
returns-in-Some c d knows =
    let kept = c.args.self.now in
    let of = uses_of kept.rule d in
    c.at.ensures
    ∙ subst (λ o. value_in of kept.list.now o ≡ of (term_named d.known c.args.text.now)) c.in-Some.ensures.place
    (value_named of (entries_of kept.scope.now) kept.list.now d.known c.args.text.now knows)
