use Rattle.std.proofs.Common.{◌≡◌, ◌+◌, ◌≤◌, length, ap, sym, ◌∙◌, arith}
use Rattle.pld_order.proofs.Common.{true≢false, length_push, reads_of}
use Rattle.pld_order.proofs.DoneSets.{done_more, ready_of, stuck_of}
use Rattle.pld_order.proofs.OneOfBoth.{not_both, stuck_loop}
use Rattle.pld_order.proofs.Orders.{order_none, order_more, order_short, order_of_all}
use Rattle.pld_order.proofs.ordering.order.Goals as goal

pub loop-v-init : goal.loop-v-init
loop-v-init c = rw c.new-order.ensures (order_none (length c.args.reads.now) (reads_of c.args.reads.now), c.no_vertices-done.ensures)

-- room for one more
shorter : (c : goal.After-order-1) → length c.loop-v.order.items + 1 ≤ length c.args.reads.now
shorter c =
    order_short (length c.args.reads.now) (reads_of c.args.reads.now) c.loop-v.order.items c.in-Some.v c.loop-v.invariant.0
    (ready_of c.args.reads.now c.loop-v.order.items c.loop-v.done c.requires c.loop-v.invariant.1 c.in-Some.v c.in-Some.ensures.found)

pub push-requires : goal.push-requires
push-requires c = (omega arith, (let room = shorter c in omega (arith, room, c.requires)))

pub loop-v-smaller : goal.loop-v-smaller
loop-v-smaller c =
    let room = order_short (length c.args.reads.now) (reads_of c.args.reads.now) c.loop-v.order.items c.in-Some.v c.loop-v.invariant.0
    (ready_of c.args.reads.now c.loop-v.order.items c.loop-v.done c.requires c.loop-v.invariant.1 c.in-Some.v c.in-Some.ensures.found) in
    let longer : length c.push.new.self.items ≡ length c.loop-v.order.items + 1 = ap length c.push.ensures.items ∙ length_push c.loop-v.order.items c.in-Some.v in
    omega (arith, room, longer)

pub loop-v-preserved : goal.loop-v-preserved
loop-v-preserved c =
    rw c.push.ensures.items (
      order_more (length c.args.reads.now) (reads_of c.args.reads.now) c.loop-v.order.items c.in-Some.v c.loop-v.invariant.0
          (ready_of c.args.reads.now c.loop-v.order.items c.loop-v.done c.requires c.loop-v.invariant.1 c.in-Some.v c.in-Some.ensures.found),
      done_more (length c.args.reads.now) c.loop-v.order.items c.loop-v.done c.insert.new.self c.in-Some.v c.loop-v.invariant.1 c.insert.ensures,
    )

pub returns-then-all_done-clause-ok : goal.returns-then-all_done-clause-ok
returns-then-all_done-clause-ok c =
    order_of_all (length c.args.reads.now) (reads_of c.args.reads.now) c.loop-v.order.items c.loop-v.invariant.0
    (λ v v_in. sym (c.loop-v.invariant.1.vertices v v_in) ∙ c.all_done.ensures.0 c.if-all_done.true v v_in)

pub returns-then-all_done-clause-no_loop : goal.returns-then-all_done-clause-no_loop
returns-then-all_done-clause-no_loop c chain is =
    not_both (length c.args.reads.now) (reads_of c.args.reads.now) c.loop-v.order.items chain (returns-then-all_done-clause-ok c) is

pub least_loop-requires-clause-some : goal.least_loop-requires-clause-some
least_loop-requires-clause-some c =
    stuck_loop (length c.args.reads.now) (reads_of c.args.reads.now) c.loop-v.order.items
    (stuck_of c.args.reads.now c.loop-v.order.items c.loop-v.done c.requires c.loop-v.invariant.1 c.in-None.ensures.none)
    (λ all. true≢false (sym (c.all_done.ensures.1 (λ v v_in. c.loop-v.invariant.1.vertices v v_in ∙ all v v_in)) ∙ c.if-all_done.false))

pub returns-in-None-clause-no_order : goal.returns-in-None-clause-no_order
returns-in-None-clause-no_order c order ordered =
    not_both (length c.args.reads.now) (reads_of c.args.reads.now) order c.least_loop.result.vertices.items ordered c.least_loop.ensures.is_loop
