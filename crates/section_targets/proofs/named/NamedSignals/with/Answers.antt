use Rattle.std.proofs.Common.{◌≡◌, ◌&&◌, ◌++◌, ◌∙◌, sym, ap, ap₂, take}
use Rattle.section_targets.proofs.SignalLists.{signals_joined}
use Rattle.section_targets.proofs.named.NamedSignals.with.Goals.{then-self, else-self}
use Rattle.section_targets.proofs.named.NamedSignals.with.Goals as goal

pub returns : goal.returns
returns c count xs ys b d h k =
    let rest = c.args.rest.now in
    let alone : c.if-self.alone ≡ (c.args.self.alone && rest.alone) = elim c.if-self.branch [
      | then-self w ↦ w.alone-is ∙ sym (ap (λ a. a && rest.alone) w.if-self.true)
      | else-self w ↦ w.alone-is ∙ w.if-self.false ∙ sym (ap (λ a. a && rest.alone) w.if-self.false)
    ] in
    signals_joined count c.args.self rest _ xs ys b d h k alone
    (c.from_vec.ensures ∙ c.truncate.ensures.items ∙ ap (take 33) (c.in_ok-extend_from_slice.ensures.items ∙ ap₂ (λ us vs. us ++ vs) c.into_vec-signals.ensures c.as_slice.ensures))
