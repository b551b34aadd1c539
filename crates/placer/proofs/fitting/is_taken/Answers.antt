-- One name more.
use Rattle.std.proofs.Common.{◌≤◌, ◌||◌, ◌+◌, Bool, drop, length, map, sym, ap, ◌∙◌, arith}
use Rattle.placer.proofs.Common.{list_any, Declared, Entry, view_declared, view_meaning, is_on_pin, any_here}
use Rattle.placer.proofs.Mapped.{any_mapped, any_past}
use Rattle.placer.proofs.fitting.is_taken.Goals as goal

pub loop-declared-init : goal.loop-declared-init
loop-declared-init c = any_mapped (λ (e : Entry). is_on_pin c.args.pin e.kind) view_declared c.args.names.now

pub returns-then-is_on_pin : goal.returns-then-is_on_pin
returns-then-is_on_pin c =
    let l = c.loop-declared in
    let test : Declared → Bool = λ (d : Declared). is_on_pin c.args.pin (view_meaning d.meaning) in
    sym (l.invariant ∙ any_here test c.declared-item.result c.args.names.now l.declared-index c.loop-declared-test.true
    ∙ ap (λ b. b || list_any test (drop (l.declared-index + 1) c.args.names.now)) (ap test (sym c.declared-item.is) ∙ sym c.is_on_pin.ensures ∙ c.if-is_on_pin.true))

pub loop-declared-preserved : goal.loop-declared-preserved
loop-declared-preserved c =
    let l = c.loop-declared in
    let test : Declared → Bool = λ (d : Declared). is_on_pin c.args.pin (view_meaning d.meaning) in
    l.invariant ∙ any_here test c.declared-item.result c.args.names.now l.declared-index c.loop-declared-test.true
    ∙ ap (λ b. b || list_any test (drop (l.declared-index + 1) c.args.names.now)) (ap test (sym c.declared-item.is) ∙ sym c.is_on_pin.ensures ∙ c.if-is_on_pin.false)

pub returns : goal.returns
returns c =
    let l = c.loop-declared in
    let past : length c.args.names.now ≤ l.declared-index = omega (arith, c.loop-declared-test.false) in
    sym (l.invariant ∙ any_past (λ (d : Declared). is_on_pin c.args.pin (view_meaning d.meaning)) c.args.names.now l.declared-index past)
