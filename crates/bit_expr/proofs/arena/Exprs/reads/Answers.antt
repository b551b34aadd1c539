use Rattle.std.proofs.Common.{◌≡◌, get_or, ◌-◌, ◌+◌, List, false, arith, subst}
use Rattle.bit_expr.proofs.Common.{Formula, Const, names, Node, arena, nodes_of, AreReads}
use Rattle.bit_expr.proofs.ArenaLists.{low_formula}
use Rattle.bit_expr.proofs.KeptReads.{entry_within, entry_read}
use Rattle.bit_expr.proofs.arena.Exprs.reads.Goals as goal

pub index-requires : goal.index-requires
index-requires c = omega (arith, entry_within c.self.inside.kept.items c.args.id.0 (rw c.self.view_is c.requires) c.if-id-lt-CONSTANTS.false)

pub returns-then-id-lt-CONSTANTS : goal.returns-then-id-lt-CONSTANTS
returns-then-id-lt-CONSTANTS c =
    subst (λ (f : Formula). AreReads (λ leaf. names f leaf) c.nothing.result) (low_formula c.args.self.now c.args.id.0 c.if-id-lt-CONSTANTS.true) c.nothing.ensures

pub returns-else-id-lt-CONSTANTS : goal.returns-else-id-lt-CONSTANTS
returns-else-id-lt-CONSTANTS c =
    let place : c.args.id.0 - 2 + 2 ≡ c.args.id.0 = omega arith in
    subst (λ (ns : List Node). AreReads (λ leaf. names (get_or (arena ns) c.args.id.0 (Const false)) leaf) c.index.result.now.reads) c.self.view_is
    (subst (λ i. AreReads (λ leaf. names (get_or (arena (nodes_of c.self.inside.kept.items)) i (Const false)) leaf) c.index.result.now.reads) place
    (c.self.invariant.reads (c.args.id.0 - 2) c.index.result.now
    (entry_read c.self.inside.kept.items c.args.id.0 c.index.result.now (rw c.self.view_is c.requires) c.if-id-lt-CONSTANTS.false c.index.ensures)))
