-- One room less.
use Rattle.std.proofs.Common.{◌≡◌, ◌-◌, ◌<◌, suc, ◌++◌, sym, ap, ◌∙◌, append_assoc, arith}
use Rattle.placer.proofs.Common.{cells_of_room, large_to}
use Rattle.placer.proofs.PinLists.{large_less}
use Rattle.placer.proofs.preferring.large_cells.Goals as goal

pub rooms-init : goal.rooms-init
rooms-init g c = ap (λ xs. xs ++ large_to g.D.Device.table c.rows-room.result) c.new-list.ensures.items ∙ ap (large_to g.D.Device.table) (c.rows-room.ensures)

pub rooms-preserved : goal.rooms-preserved
rooms-preserved g c =
    let t = g.D.Device.table in
    let l = c.rooms in
    ap (λ xs. xs ++ large_to t (l.room - 1)) c.in_ok-add_room.ensures
    ∙ (append_assoc l.list.items (cells_of_room t l.room) (large_to t (l.room - 1))
    ∙ (ap (λ xs. l.list.items ++ xs) (sym (large_less t l.room c.rooms-test.true)) ∙ l.invariant))

pub returns : goal.returns
returns g c =
    let t = g.D.Device.table in
    let l = c.rooms in
    let none : 0 ≡ l.room = omega (arith, c.rooms-test.false) in
    c.in_ok-add_room-2.ensures ∙ (ap (λ n. l.list.items ++ large_to t n) none ∙ l.invariant)
