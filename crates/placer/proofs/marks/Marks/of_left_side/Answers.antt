-- The names of the left side.
use Rattle.std.proofs.Common.{map, ap, ◌∙◌}
use Rattle.placer.proofs.Common.{flat_map, signals_of, without_extension, view, view_use, signals_at}
use Rattle.placer.proofs.Joins.{numbers_answer}
use Rattle.placer.proofs.Targeted.{target_signals}
use Rattle.placer.proofs.marks.Marks.of_left_side.Goals as goal

pub returns : goal.returns
returns c =
    numbers_answer c.args.self.now c.of_uses.result (λ ks. flat_map (signals_at ks) (map view_use c.as_slice.result.now)) (λ ks. signals_of ks (without_extension (view c.args.target.now)))
    (λ ks. ap (flat_map (signals_at ks)) (ap (map view_use) c.as_slice.ensures.value ∙ c.in_ok-uses.ensures) ∙ target_signals ks (without_extension (view c.args.target.now))) c.of_uses.ensures
