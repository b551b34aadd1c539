use Rattle.std.proofs.Common.{◌≡◌, get_or, ◌-◌, List, false, arith, subst}
use Rattle.bit_expr.proofs.Common.{Const, Node, arena, formula_of, nodes_of}
use Rattle.bit_expr.proofs.ArenaLists.{low_formula, node_is, node_lies}
use Rattle.bit_expr.proofs.KeptReads.{entry_within, entry_read, node_kept}
use Rattle.bit_expr.proofs.arena.Exprs.get.Goals as goal

pub index-requires : goal.index-requires
index-requires c = omega (arith, entry_within c.self.inside.kept.items c.args.id.0 (rw c.self.view_is c.requires) c.if-id-lt-CONSTANTS.false)

pub returns-then-id-lt-CONSTANTS-clause-node : goal.returns-then-id-lt-CONSTANTS-clause-node
returns-then-id-lt-CONSTANTS-clause-node c = low_formula c.args.self.now c.args.id.0 c.if-id-lt-CONSTANTS.true

pub returns-else-id-lt-CONSTANTS-clause-node : goal.returns-else-id-lt-CONSTANTS-clause-node
returns-else-id-lt-CONSTANTS-clause-node c =
    subst (λ (ns : List Node). formula_of (arena ns) c.index.result.now.node ≡ get_or (arena ns) c.args.id.0 (Const false)) c.self.view_is
    (node_is (nodes_of c.self.inside.kept.items) c.args.id.0 c.index.result.now.node c.self.invariant.ordered c.if-id-lt-CONSTANTS.false
    (node_kept c.self.inside.kept.items (c.args.id.0 - 2) c.index.result.now
    (entry_read c.self.inside.kept.items c.args.id.0 c.index.result.now (rw c.self.view_is c.requires) c.if-id-lt-CONSTANTS.false c.index.ensures)))

pub returns-else-id-lt-CONSTANTS-clause-earlier : goal.returns-else-id-lt-CONSTANTS-clause-earlier
returns-else-id-lt-CONSTANTS-clause-earlier c =
    node_lies (nodes_of c.self.inside.kept.items) c.args.id.0 c.index.result.now.node c.self.invariant.ordered c.if-id-lt-CONSTANTS.false
    (node_kept c.self.inside.kept.items (c.args.id.0 - 2) c.index.result.now
    (entry_read c.self.inside.kept.items c.args.id.0 c.index.result.now (rw c.self.view_is c.requires) c.if-id-lt-CONSTANTS.false c.index.ensures))
