-- What is known of the front of the rest is known of the configuration's.
use Rattle.std.proofs.Common.{◌≡◌, ◌∙◌, ap, sym, subst, [], None, drop}
use Rattle.abel_expand.proofs.Common.{DefinesNone, Reading, bytes_waiting, after}
use Rattle.abel_expand.proofs.Turning.{rest_is}
use Rattle.abel_expand.proofs.reader.Reader.move_on.Goals as goal

pub act-requires-clause-undefined : goal.act-requires-clause-undefined
act-requires-clause-undefined c =
    let i = c.self.inside in
    let r : i.refused ≡ None = ap (λ (x : Reading). x.refused) c.self.view_is ∙ c.requires.going in
    let none : drop i.given (after i.turns i.text.now).done ≡ [] = ap bytes_waiting c.self.view_is ∙ c.requires.given in
    let s = c.self.invariant.1 r in
    λ e. subst DefinesNone (sym (rest_is i.text.now i.turns i.given i.done i.rewritings i.tables (drop i.at i.said.items) i.copied i.rest i.place s none)) (c.in_ok-may_define.ensures.no e)
