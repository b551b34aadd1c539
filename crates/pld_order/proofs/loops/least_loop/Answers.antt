use Rattle.std.proofs.Common.{length, get_or, sym, ◌∙◌, arith, inl, inr}
use Rattle.pld_order.proofs.Common.{cases_lt, true≢false, reads_of}
use Rattle.pld_order.proofs.LoopPaths.{no_loop_at_all}
use Rattle.pld_order.proofs.loops.least_loop.Goals as goal

pub returns-in-Some : goal.returns-in-Some
returns-in-Some c = record {
  is_loop = c.in-Some.ensures.found;
  least = λ other is v found.
      elim (cases_lt v (get_or c.in-Some.vertices.items 0 0)) [
        | inl less ↦ absurd (true≢false (sym found ∙ c.loop-v.invariant v (let first = c.in-Some.ensures.first in omega (arith, first, less)) other is))
        | inr more ↦ more
      ];
}

pub unreachable-requires : goal.unreachable-requires
unreachable-requires c = no_loop_at_all (length c.args.reads.now) (reads_of c.args.reads.now) (λ v v_in. c.loop-v.invariant v (let end = c.loop-v-test.false in omega (arith, v_in, end))) c.requires.some
