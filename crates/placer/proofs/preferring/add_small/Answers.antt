-- One room more.
use Rattle.std.proofs.Common.{◌≡◌, ◌+◌, suc, ◌++◌, sym, ap, ◌∙◌, append_assoc, add-one, arith}
use Rattle.placer.proofs.Common.{cells_of_room, small_to}
use Rattle.placer.proofs.PinLists.{small_more}
use Rattle.placer.proofs.preferring.add_small.Goals as goal

pub loop-room-init : goal.loop-room-init
loop-room-init g c = c.in_ok-add_room.ensures

pub loop-room-preserved : goal.loop-room-preserved
loop-room-preserved g c =
    let t = g.D.Device.table in
    let l = c.loop-room in
    c.in_ok-add_room-2.ensures
    ∙ (ap (λ xs. xs ++ cells_of_room t (l.room + 1)) l.invariant
    ∙ (append_assoc c.args.list.now.items (small_to t l.room) (cells_of_room t (l.room + 1)) ∙ ap (λ xs. c.args.list.now.items ++ xs) (small_more t l.room)))

pub returns : goal.returns
returns g c =
    let t = g.D.Device.table in
    let end = c.loop-room.auto.room-end in
    let same : c.loop-room.room ≡ t.rows = omega (arith, c.loop-room-test.false, c.rows-room-end.ensures, end) in
    c.loop-room.invariant ∙ ap (λ n. c.args.list.now.items ++ small_to t n) same
