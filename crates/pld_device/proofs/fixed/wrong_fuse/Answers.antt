-- The levels before the index are as the device fixes them.
use Rattle.std.proofs.Common.{◌≡◌, Bool, true, false, not, Some, None, List, length, add-one, refl, sym, ap, subst, ◌∙◌, arith}
use Rattle.pld_device.proofs.Common.{FuseBit, says}
use Rattle.pld_device.proofs.FixedLevels.{fixed_below, none_at_end, none_past, right_more, told, wrong_here}
use Rattle.pld_device.proofs.fixed.wrong_fuse.Goals as goal

said_wrong : (wrong said : Bool) → wrong ≡ not said → wrong ≡ true → said ≡ false
said_wrong wrong true is on = absurd cc
said_wrong wrong false is on = refl

said_right : (wrong said : Bool) → wrong ≡ not said → wrong ≡ false → said ≡ true
said_right wrong true is off = refl
said_right wrong false is off = absurd cc

-- what was said of the levels was said of the fuses
brought : (levels fuses : List Bool) (bit : FuseBit) (wrong : Bool) → levels ≡ fuses → wrong ≡ not (says levels (Some bit)) → wrong ≡ not (says fuses (Some bit))
brought levels fuses bit wrong same is = subst (λ (ls : List Bool). wrong ≡ not (says ls (Some bit))) same is

pub is_wrong-requires : goal.is_wrong-requires
is_wrong-requires g c =
    let below = fixed_below g.D.Device.table g.D.Device.sound c.loop-index.index c.in-Some.bit (sym c.fixed.ensures ∙ c.in-Some.is) in
    let long : length c.levels.result.now ≡ length c.args.fuses.now = ap length c.levels.ensures in
    omega (arith, below, long, c.requires)

pub loop-index-preserved : goal.loop-index-preserved
loop-index-preserved g c =
    let fuses = c.args.fuses.now in
    let right = said_right c.is_wrong.result (says fuses (Some c.in-Some.bit)) (brought c.levels.result.now fuses c.in-Some.bit c.is_wrong.result c.levels.ensures c.is_wrong.ensures) c.if-is_wrong.false in
    rw add-one (right_more fuses g.D.Device.table.fixed c.loop-index.index c.in-Some.bit (sym c.fixed.ensures ∙ c.in-Some.is) right ∙ c.loop-index.invariant)

pub returns-in_default-clause-first : goal.returns-in_default-clause-first
returns-in_default-clause-first g c =
    none_at_end c.args.fuses.now g.D.Device.table.fixed c.loop-index.index (sym c.fixed.ensures ∙ c.in_default.is) ∙ c.loop-index.invariant

pub returns-in_default-clause-none : goal.returns-in_default-clause-none
returns-in_default-clause-none g c =
    told g.D.Device.table c.args.fuses.now None
    (none_at_end c.args.fuses.now g.D.Device.table.fixed c.loop-index.index (sym c.fixed.ensures ∙ c.in_default.is) ∙ c.loop-index.invariant)

pub returns-then-is_wrong-clause-first : goal.returns-then-is_wrong-clause-first
returns-then-is_wrong-clause-first g c =
    let fuses = c.args.fuses.now in
    let wrong = said_wrong c.is_wrong.result (says fuses (Some c.in-Some.bit)) (brought c.levels.result.now fuses c.in-Some.bit c.is_wrong.result c.levels.ensures c.is_wrong.ensures) c.if-is_wrong.true in
    wrong_here fuses g.D.Device.table.fixed c.loop-index.index c.in-Some.bit (sym c.fixed.ensures ∙ c.in-Some.is) wrong ∙ c.loop-index.invariant

pub returns-then-is_wrong-clause-none : goal.returns-then-is_wrong-clause-none
returns-then-is_wrong-clause-none g c =
    let fuses = c.args.fuses.now in
    let wrong = said_wrong c.is_wrong.result (says fuses (Some c.in-Some.bit)) (brought c.levels.result.now fuses c.in-Some.bit c.is_wrong.result c.levels.ensures c.is_wrong.ensures) c.if-is_wrong.true in
    told g.D.Device.table fuses (Some c.in-Some.bit.fuse)
    (wrong_here fuses g.D.Device.table.fixed c.loop-index.index c.in-Some.bit (sym c.fixed.ensures ∙ c.in-Some.is) wrong ∙ c.loop-index.invariant)

pub returns-clause-none : goal.returns-clause-none
returns-clause-none g c =
    told g.D.Device.table c.args.fuses.now None
    (none_past c.args.fuses.now g.D.Device.table.fixed c.loop-index.index (let few = g.D.Device.sound.few_fixed in omega (arith, few, c.loop-index-test.false))
    ∙ c.loop-index.invariant)
