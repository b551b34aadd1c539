-- One cell more.
use Rattle.std.proofs.Common.{◌<◌, ◌≤◌, ◌++◌, ◌∷◌, [], length, sym, ap, ◌∙◌, append_assoc, arith}
use Rattle.placer.proofs.Common.{get_or_from_slice_get, no_cell}
use Rattle.placer.proofs.PinLists.{room_more, room_pins, room_same, whole_room}
use Rattle.placer.proofs.preferring.add_room.Goals.{then-is_of_room+in_ok-push, else-is_of_room}
use Rattle.placer.proofs.preferring.add_room.Goals as goal

pub loop-index-preserved : goal.loop-index-preserved
loop-index-preserved g c =
    let t = g.D.Device.table in
    let l = c.loop-index in
    let old = c.args.list.now.items in
    let within : l.index < length t.cells = omega (arith, c.loop-index-test.true, c.cells-index-end.ensures) in
    let here = get_or_from_slice_get t.cells l.index c.cell-cell.result no_cell c.cell-cell.ensures in
    elim c.if-is_of_room.branch [
      | then-is_of_room+in_ok-push w ↦
          ap (λ v. v.items) w.list-is
          ∙ (w.in_ok-push.ensures.items
          ∙ (ap (λ xs. xs ++ c.cell-cell.result.pin ∷ []) l.invariant
          ∙ (append_assoc old (room_pins t c.args.room l.index) (c.cell-cell.result.pin ∷ [])
          ∙ ap (λ xs. old ++ xs) (room_more t c.args.room l.index c.cell-cell.result within here (sym c.is_of_room.ensures ∙ w.if-is_of_room.true)))))
      | else-is_of_room w ↦
          ap (λ v. v.items) w.list-is ∙ (l.invariant ∙ ap (λ xs. old ++ xs) (room_same t c.args.room l.index c.cell-cell.result within here (sym c.is_of_room.ensures ∙ w.if-is_of_room.false)))
    ]

pub returns : goal.returns
returns g c =
    let t = g.D.Device.table in
    let past : length t.cells ≤ c.loop-index.index = omega (arith, c.loop-index-test.false, c.cells-index-end.ensures) in
    c.loop-index.invariant ∙ ap (λ xs. c.args.list.now.items ++ xs) (whole_room t c.args.room c.loop-index.index past)
