-- One name more.
use Rattle.std.proofs.Common.{arith}
use Rattle.fuse_listing.proofs.GivenLines.{given_more, given_past}
use Rattle.fuse_listing.proofs.given.put_given.Goals.{then-place-placed+in_ok-put_if_given, else-place-placed}
use Rattle.fuse_listing.proofs.given.put_given.Goals as goal

pub loop-place-preserved : goal.loop-place-preserved
loop-place-preserved c =
    let ds = c.args.declared.now in
    let ps = c.args.placed.now in
    let l = c.loop-place in
    let d = c.index-declared-place.result in
    elim c.if-place-placed.branch [
      | then-place-placed+in_ok-put_if_given w ↦
          rw w.out-is
          (given_more ds ps l.place d c.loop-place-test.true c.index-declared-place.is w.index-placed-place.result c.args.out.now.items l.out.items _ w.if-place-placed.true w.index-placed-place.is l.invariant w.in_ok-put_if_given.ensures)
      | else-place-placed w ↦ rw w.out-is (given_past ds ps l.place d c.loop-place-test.true c.index-declared-place.is c.args.out.now.items l.out.items (omega (arith, w.if-place-placed.false)) l.invariant)
    ]
