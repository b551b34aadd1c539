use Rattle.std.proofs.Common.{◌+◌, List, length, refl, ap, sym, arith, subst}
use Rattle.bit_expr.proofs.Common.{length-map, names, Kept, Node, arena, formula_of, AreReads}
use Rattle.bit_expr.proofs.ArenaLists.{arena_count}
use Rattle.bit_expr.proofs.KeptReads.{kept_more, added_kept}
use Rattle.bit_expr.proofs.arena.Exprs.store.Goals as goal

pub returns-then-len-most : goal.returns-then-len-most
returns-then-len-most c = (refl, (omega arith, omega (arith, arena_count c.args.self.now, ap length c.self.view_is, length-map c.self.inside.kept.items (λ (x : Kept). x.node))))

pub invariant_of-self-2 : goal.invariant_of-self-2
invariant_of-self-2 c =
    rw c.in_ok-push.ensures.items (kept_more c.self.inside.kept.items (record { node = c.args.node; reads = c.reads_of-reads.result }) c.self.invariant (rw c.self.view_is c.requires)
    (subst (λ (ns : List Node). AreReads (λ leaf. names (formula_of (arena ns) c.args.node) leaf) c.reads_of-reads.result) (sym c.self.view_is) c.reads_of-reads.ensures))

pub returns : goal.returns
returns c =
    rw c.in_ok-push.ensures.items (added_kept c.args.most c.self.inside.kept.items (record { node = c.args.node; reads = c.reads_of-reads.result }) c.args.self.now (record { 0 = c.len-2.result + 1 })
    c.self.view_is (omega arith) (omega (arith, c.in_ok-push.ensures.len)))
