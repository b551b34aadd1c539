use Rattle.std.proofs.Common.{rules, ◌≡◌, suc, add-one, ◌∙◌, sym, Some, None, slice_get, max}
use Rattle.jedec_writer.proofs.ControlEnds.{switch_more, no_switch, goes_on}
use Rattle.jedec_writer.proofs.control.past_switches.Goals.{in-Some, in_default}
use Rattle.jedec_writer.proofs.control.past_switches.Goals as goal

pub loop-row-preserved : goal.loop-row-preserved
loop-row-preserved g c =
    let switches = g.D.Device.table.row_switches in
    elim c.match-row_switch.branch [
      | in-Some w ↦
          let greater : c.match-row_switch.end ≡ max c.loop-row.end (suc w.in-Some.fuse) = search rules in
          let found : slice_get switches c.loop-row.row ≡ Some w.in-Some.fuse = sym c.row_switch.ensures ∙ w.in-Some.is in
          rw (greater, add-one) (goes_on c.loop-row.end _ _ _ _ c.loop-row.invariant (switch_more switches c.loop-row.row w.in-Some.fuse found))
      | in_default w ↦
          let none : slice_get switches c.loop-row.row ≡ None = search rules in
          rw (w.end-is, add-one, no_switch switches c.loop-row.row none) c.loop-row.invariant
    ]
