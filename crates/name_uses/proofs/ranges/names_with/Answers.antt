-- One name more, and all of them.
use Rattle.std.proofs.Common.{[], ◌∷◌, ◌++◌, map, sym, ap, ap₂, ◌∙◌, arith}
use Rattle.name_uses.proofs.Common.{decimal, map-append, map-range_with_len_more, number_at, name_items}
use Rattle.name_uses.proofs.Digits.{names_by_place}
use Rattle.name_uses.proofs.ranges.names_with.Goals as goal

pub loop-place-preserved : goal.loop-place-preserved
loop-place-preserved c =
    ap (map name_items) c.in_ok-push.ensures.items
    ∙ (map-append name_items c.loop-place.names.items (c.in_ok-name_with.field-0 ∷ [])
    ∙ (ap₂ (λ ns y. ns ++ y ∷ []) c.loop-place.invariant (c.in_ok-name_with.ensures ∙ ap (λ k. c.args.stem.now ++ decimal k) c.number_in.ensures)
    ∙ sym (map-range_with_len_more (λ k. c.args.stem.now ++ decimal (number_at c.args.first c.args.last k)) 0 c.loop-place.place c.loop-place.place (omega arith))))

pub returns : goal.returns
returns c =
    c.loop-place.invariant
    ∙ names_by_place c.args.stem.now c.args.first c.args.last c.loop-place.place (omega (arith, c.loop-place-test.false, c.loop-place.auto.place-end, c.steps_between-place-end.ensures.steps))
