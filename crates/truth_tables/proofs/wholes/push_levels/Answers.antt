-- One bit more.
use Rattle.std.proofs.Common.{◌+◌, ◌-◌, ◌/◌, ◌%◌, ◌==◌, ◌++◌, [], ◌∷◌, map, sym, ap, ◌∙◌, append_assoc}
use Rattle.truth_tables.proofs.Common.{map-append, digits_low_first, view_mark}
use Rattle.abel_meaning.specs.Rows as meant
use Rattle.truth_tables.specs.declared.mark.Mark.TheVariants as mark
use Rattle.truth_tables.proofs.PairLaws.{digits_left}
use Rattle.truth_tables.proofs.wholes.push_levels.Goals as goal

pub loop-position-preserved : goal.loop-position-preserved
loop-position-preserved c =
    let w = c.args.width in
    let i = c.loop-position._position in
    let r = c.loop-position.rest in
    let items = c.loop-position.marks.items in
    let b = (r % 2 == 1) in
    let later = map meant.Level (digits_low_first (w - (i + 1)) (r / 2)) in
    ap (λ xs. map view_mark xs ++ later) c.in_ok-push.ensures.items
    ∙ ap (λ xs. xs ++ later) (map-append view_mark items (mark.Level b ∷ []))
    ∙ append_assoc (map view_mark items) (meant.Level b ∷ []) later
    ∙ ap (λ xs. map view_mark items ++ map meant.Level xs) (sym (digits_left w i r c.loop-position-test.true))
    ∙ c.loop-position.invariant
