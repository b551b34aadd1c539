-- The names that it uses are those that it names.
use Rattle.std.proofs.Common.{None, map, ap, ◌∙◌}
use Rattle.placer.proofs.Common.{flat_map, view, view_use, signals_in, signals_at}
use Rattle.placer.proofs.Joins.{numbers_answer}
use Rattle.placer.proofs.UsedSignals.{names_signals}
use Rattle.placer.proofs.marks.Marks.of_expr.Goals as goal

pub returns : goal.returns
returns c =
    let t = view c.args.expr.now in
    numbers_answer c.args.self.now c.of_uses.result (λ ks. flat_map (signals_at ks) (map view_use c.as_slice.result.now)) (λ ks. signals_in ks t)
    (λ ks. ap (λ us. flat_map (signals_at ks) (map view_use us)) c.as_slice.ensures.value ∙ (ap (flat_map (signals_at ks)) c.in_ok-uses.ensures ∙ names_signals ks None t)) c.of_uses.ensures
