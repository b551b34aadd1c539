use Rattle.std.proofs.Common.{Some, ◌≡◌, IfSome, slice_get, get_or, length, false, sym, ap, subst, ◌∙◌}
use Rattle.sop_lowering.proofs.Common.{slice_get-get_or, Read, SignedBit, HasPair}
use Rattle.sop_lowering.proofs.Operands.{node_reached, node_leads, not_leads, and_leads, or_leads, xor_leads}
use Rattle.sop_lowering.proofs.Turns.{node_inside}
use Rattle.sop_lowering.proofs.walking.operand.Goals as goal

pub returns-in-Leaf-Node : goal.returns-in-Leaf-Node
returns-in-Leaf-Node c =
    let net = c.args.net.now in
    let node = c.in-Leaf-Node.node in
    let f = get_or c.as_slice.result.now node (record { one = record { 0 = 0 }; any = record { 0 = 0 }; complement = false }) in
    let is = ap Read (sym c.in-Leaf-Node.field-0-is) ∙ c.in-Leaf-Node.ensures.node in
    let low = node_inside net (HasPair net) (length net.nodes) node (node_reached net c.args.bit c.requires node is) in
    let there : slice_get net.nodes node ≡ Some f = rw (c.as_slice.ensures) (slice_get-get_or net.nodes node _ low) in
    node_leads net c.args.bit c.requires node is f there c.of_one.result
    (subst (λ positive. IfSome c.of_one.result (λ (o : SignedBit). o ≡ record { id = f.one; positive = positive })) c.turned.ensures c.of_one.ensures)

pub returns-in-Not : goal.returns-in-Not
returns-in-Not c = not_leads c.args.net.now c.args.bit c.requires c.in-Not.a c.in-Not.ensures.node c.in-Not.ensures.earlier c.of_one-in-Not.result c.of_one-in-Not.ensures

pub returns-in-And : goal.returns-in-And
returns-in-And c = and_leads c.args.net.now c.args.bit c.requires c.in-And.a c.in-And.b c.in-And.ensures.node c.in-And.ensures.earlier c.of_two.result c.of_two.ensures

pub returns-in-Or : goal.returns-in-Or
returns-in-Or c = or_leads c.args.net.now c.args.bit c.requires c.in-Or.a c.in-Or.b c.in-Or.ensures.node c.in-Or.ensures.earlier c.of_two-in-Or.result c.of_two-in-Or.ensures

pub returns-in-Xor : goal.returns-in-Xor
returns-in-Xor c = xor_leads c.args.net.now c.args.bit c.requires c.in-Xor.a c.in-Xor.b c.in-Xor.ensures.node c.in-Xor.ensures.earlier c.of_four.result c.of_four.ensures
