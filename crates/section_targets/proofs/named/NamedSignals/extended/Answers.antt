use Rattle.std.proofs.Common.{refl, sym, subst}
use Rattle.section_targets.proofs.Common.{extended_if, NamedSignals, IsOfTerm}
use Rattle.section_targets.proofs.SignalLists.{signals_extended}
use Rattle.section_targets.proofs.named.NamedSignals.extended.Goals as goal

pub returns-in-Some : goal.returns-in-Some
returns-in-Some c count t h =
    let n : NamedSignals = record { signals = c.args.self.signals; alone = c.is_nothing.result } in
    subst (λ e. IsOfTerm count n (extended_if e t)) (sym c.in-Some.is) (signals_extended count c.in-Some.field-0 c.args.self n t h refl c.is_nothing.ensures)
