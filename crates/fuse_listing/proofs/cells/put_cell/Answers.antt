-- Five pieces were appended, one after the other.
use Rattle.std.proofs.Common.{◌++◌, codes, flat_map}
use Rattle.fuse_listing.proofs.Common.{on_ok_weaker, entries_of, view_declared, cell_at, enable_text, head_text, line_if_used}
use Rattle.pld_device.specs.Macrocells.{data_rows}
use Rattle.fuse_listing.proofs.Joined.{one_more}
use Rattle.fuse_listing.proofs.cells.put_cell.Goals as goal

pub returns : goal.returns
returns g c =
    let t = g.D.Device.table in
    let fuses = c.args.of.now.fuses.now in
    let es = entries_of c.args.of.now.names.now in
    let old = c.args.out.now.items in
    let head = head_text t fuses c.args.cell (view_declared c.args.declared.now) in
    let enable = enable_text t fuses es (cell_at t c.args.cell).enable in
    let worded = one_more old head (codes "  enable ") _ _ c.in_ok-put_head.ensures c.in_ok-extend_from_slice.ensures.items in
    let enabled = one_more old (head ++ codes "  enable ") enable _ _ worded (rw (← c.cell_of-found.ensures.found) c.in_ok-put_enable.ensures) in
    let ended = one_more old (head ++ codes "  enable " ++ enable) (codes "\n") _ _ enabled c.in_ok-push.ensures.items in
    on_ok_weaker c.put_rows.result
    (λ rows. one_more old (head ++ codes "  enable " ++ enable ++ codes "\n") (flat_map (line_if_used t fuses es) (data_rows t c.args.cell)) _ _ ended
    (rw (← c.cell_of-found.ensures.found) rows))
    c.put_rows.ensures
