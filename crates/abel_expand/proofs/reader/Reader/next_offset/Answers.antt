-- If nothing waits, what is left is the rest of the configuration.
use Rattle.std.proofs.Common.{◌≡◌, ◌∙◌, ap, sym, subst, ℕ, List, [], None, length, drop}
use Rattle.abel_expand.proofs.Common.{Reading, after, bytes_waiting, goes_on, next_at}
use Rattle.abel_expand.proofs.Ending.{next_is}
use Rattle.abel_expand.proofs.Turning.{rest_is}
use Rattle.abel_expand.proofs.reader.Reader.next_offset.Goals as goal

pub returns-clause-place : goal.returns-clause-place
returns-clause-place c =
    let i = c.self.inside in
    λ going given.
    let r : i.refused ≡ None = ap (λ (x : Reading). x.refused) c.self.view_is ∙ going in
    let none : drop i.given (after i.turns i.text.now).done ≡ [] = ap bytes_waiting c.self.view_is ∙ given in
    let rest = rest_is i.text.now i.turns i.given i.done i.rewritings i.tables (drop i.at i.said.items) i.copied i.rest i.place (c.self.invariant.1 r) none in
    c.copied_at-next.ensures.place ∙ ap (λ (n : ℕ). goes_on (length i.text.now) i.own n i.call) (c.len-left.ensures.value ∙ ap length c.rest.ensures)
    ∙ sym (next_is i.text.now i.turns i.own i.call i.rest (c.self.invariant.2 r).counted (c.self.invariant.7 r) rest) ∙ ap (λ (v : Reading). next_at v.turns v.text) c.self.view_is
