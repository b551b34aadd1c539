use Rattle.std.proofs.Common.{◌≡◌, ◌≤◌, ◌+◌, length, sym, ◌∙◌, ap, arith}
use Rattle.pld_order.proofs.Common.{length_push, is_on, reads_of}
use Rattle.pld_order.proofs.DoneSets.{set_more}
use Rattle.pld_order.proofs.LeadLists.{lead_none, lead_more, lead_short}
use Rattle.pld_order.proofs.leading.leading.Goals as goal

pub loop-list-init : goal.loop-list-init
loop-list-init c = rw c.new-list.ensures (lead_none (length c.args.reads.now) (reads_of c.args.reads.now) (is_on c.args.ends.now), c.new-set.ensures)

-- room for one more
shorter : (c : goal.After-list-1) → length c.loop-list.list.items + 1 ≤ length c.args.reads.now
shorter c =
    let found = c.in-Some.ensures.found in
    lead_short (length c.args.reads.now) (reads_of c.args.reads.now) (is_on c.args.ends.now) c.loop-list.list.items c.in-Some.v c.loop-list.invariant.0 found.inside (sym (c.loop-list.invariant.1 c.in-Some.v) ∙ found.new)

pub push-requires : goal.push-requires
push-requires c = (omega arith, (let room = shorter c in omega (arith, room, c.requires)))

pub loop-list-smaller : goal.loop-list-smaller
loop-list-smaller c =
    let found = c.in-Some.ensures.found in
    let room = lead_short (length c.args.reads.now) (reads_of c.args.reads.now) (is_on c.args.ends.now) c.loop-list.list.items c.in-Some.v c.loop-list.invariant.0 found.inside (sym (c.loop-list.invariant.1 c.in-Some.v) ∙ found.new) in
    let longer : length c.push.new.self.items ≡ length c.loop-list.list.items + 1 = ap length c.push.ensures.items ∙ length_push c.loop-list.list.items c.in-Some.v in
    omega (arith, room, longer)

pub loop-list-preserved : goal.loop-list-preserved
loop-list-preserved c =
    rw c.push.ensures.items (
      lead_more c.args.reads.now c.args.ends.now c.loop-list.set c.loop-list.list.items c.requires c.loop-list.invariant.1 c.in-Some.v c.loop-list.invariant.0 c.in-Some.ensures.found,
      set_more c.loop-list.list.items c.loop-list.set c.insert.new.self c.in-Some.v c.loop-list.invariant.1 c.insert.ensures,
    )
