-- Numbers, `.X.` and sets make no node.
use Rattle.std.proofs.Common.{false, refl}
use Rattle.expr_bits.proofs.Common.{arena, Const, constant_of, context_for, IsPart, joined_part, no_part, number_part, plain_value, as_set, below, term_part, top}
use Rattle.abel_meaning.specs.Terms as term
use Rattle.expr_bits.proofs.AlongWords.{zero_there, zero_is}
use Rattle.expr_bits.proofs.Contexts.{is_context}
use Rattle.expr_bits.proofs.Making.{nothing_made}
use Rattle.expr_bits.proofs.building.build.Goals as goal

pub returns-in-Number-clause-made : goal.returns-in-Number-clause-made
returns-in-Number-clause-made g c ps a =
    let old = c.args.exprs.now in
    rw c.in-Number.is (nothing_made IsPart old c.number_bits.result (number_part c.in-Number.number) (c.number_bits.ensures (arena old) (plain_value c.in-Number.number) refl refl))

pub returns-in_ok-one_bit-in-Unknown-clause-made : goal.returns-in_ok-one_bit-in-Unknown-clause-made
returns-in_ok-one_bit-in-Unknown-clause-made g c ps a =
    let d = context_for g.D.Device.table c.args.on.now.scope.now in
    let old = c.args.exprs.now in
    rw c.in-Unknown.is
    (nothing_made IsPart old c.in_ok-one_bit-in-Unknown.field-0 (term_part d term.X).what
    (c.in_ok-one_bit-in-Unknown.ensures (arena old) (Const false) (constant_of d term.X) refl refl (zero_there old, zero_is old)))

pub returns-in-Read-clause-made : goal.returns-in-Read-clause-made
returns-in-Read-clause-made g c ps a =
    let t = g.D.Device.table in
    let n = c.args.on.now.scope.now in
    rw c.in-Read.is (c.read.ensures (context_for t n) (is_context t n))

pub returns-in-Empty-clause-made : goal.returns-in-Empty-clause-made
returns-in-Empty-clause-made g c ps a =
    let old = c.args.exprs.now in
    rw c.in-Empty.is (nothing_made IsPart old c.empty_set.result no_part (c.empty_set.ensures.bits (arena old)))

pub returns-in_ok-with_member-in-Member-clause-made : goal.returns-in_ok-with_member-in-Member-clause-made
returns-in_ok-with_member-in-Member-clause-made g c ps a =
    let old = c.args.exprs.now in
    let others = as_set (top (below ps)) in
    rw c.in-Member.is
    (nothing_made IsPart old c.in_ok-with_member-in-Member.field-0 (joined_part (top ps) others)
    (c.in_ok-with_member-in-Member.ensures.bits old (top ps) others (c.taken-member.ensures.top (arena old) ps a)
    (c.taken_set-others.ensures.top (arena old) (below ps) (c.taken-member.ensures.below (arena old) ps a))))
