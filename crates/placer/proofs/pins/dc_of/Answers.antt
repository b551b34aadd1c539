-- One name more.
use Rattle.std.proofs.Common.{refl, sym, ◌∙◌, arith}
use Rattle.placer.proofs.DeclaredAt.{dc_here, dc_later, dc_none}
use Rattle.placer.proofs.pins.dc_of.Goals as goal

pub loop-declared-init : goal.loop-declared-init
loop-declared-init c = refl

pub returns-then-is_named : goal.returns-then-is_named
returns-then-is_named c =
    let l = c.loop-declared in
    c.has_dc.ensures ∙ sym (l.invariant ∙ dc_here c.args.names.now l.declared-index c.declared-item.result c.loop-declared-test.true c.declared-item.is c.args.name.now (sym c.is_named.ensures ∙ c.if-is_named.true))

pub loop-declared-preserved : goal.loop-declared-preserved
loop-declared-preserved c =
    let l = c.loop-declared in
    l.invariant ∙ dc_later c.args.names.now l.declared-index c.declared-item.result c.loop-declared-test.true c.declared-item.is c.args.name.now (sym c.is_named.ensures ∙ c.if-is_named.false)

pub returns : goal.returns
returns c = sym (c.loop-declared.invariant ∙ dc_none c.args.names.now c.loop-declared.declared-index c.args.name.now (omega (arith, c.loop-declared-test.false)))
