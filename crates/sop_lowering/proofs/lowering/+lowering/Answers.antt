use Rattle.std.proofs.Common.{Some, ◌≡◌, ◌<◌, slice_get, get_or, length, false, arith}
use Rattle.sop_lowering.proofs.Common.{slice_get-get_or, arena, HasPair}
use Rattle.sop_lowering.proofs.Turns.{function_reaches, function_written, node_inside, turn_falls}
use Rattle.sop_lowering.proofs.lowering.+lowering.Goals as goal

pub node_list-kept_or_made-requires : goal.node_list-kept_or_made-requires
node_list-kept_or_made-requires t c =
    let net = c.args.of.now.net.now in
    let f = get_or c.as_slice.result.now c.args.node (record { one = record { 0 = 0 }; any = record { 0 = 0 }; complement = false }) in
    let low = node_inside net (HasPair net) c.args.turns c.args.node c.requires.reach in
    let there : slice_get net.nodes c.args.node ≡ Some f = rw (c.as_slice.ensures) (slice_get-get_or net.nodes c.args.node _ low) in
    let some : 0 < c.args.turns = omega (arith, c.if-turns-eq0.false) in
    let reach = function_reaches net (HasPair net) c.args.turns c.args.node f there some c.requires.reach in
    (omega (arith, c.decreases, turn_falls c.args.turns (length (arena net.exprs)) f.one.0 some reach.inside), (reach.inside, omega (arith, c.requires.turns), reach.leaves))

pub node_list-returns-clause-list : goal.node_list-returns-clause-list
node_list-returns-clause-list t c =
    let net = c.args.of.now.net.now in
    let f = get_or c.as_slice.result.now c.args.node (record { one = record { 0 = 0 }; any = record { 0 = 0 }; complement = false }) in
    let low = node_inside net (HasPair net) c.args.turns c.args.node c.requires.reach in
    let there : slice_get net.nodes c.args.node ≡ Some f = rw (c.as_slice.ensures) (slice_get-get_or net.nodes c.args.node _ low) in
    rw (function_written net (HasPair net) c.args.turns c.args.node f c.args.positive there c.requires.turns c.requires.reach, ← c.turned.ensures) c.kept_or_made.ensures.list
