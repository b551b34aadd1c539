-- With the signal, or as they were.
use Rattle.std.proofs.Common.{◌≡◌, true, false, nat_lt, ◌&&◌, [], ◌∷◌, ◌++◌, if◌then◌else◌, length, sym, ap, ◌∙◌}
use Rattle.placer.proofs.Common.{view_declared, needs_pin}
use Rattle.placer.proofs.needing.add_signal.Goals as goal

pub returns-then-not-is_added : goal.returns-then-not-is_added
returns-then-not-is_added g c =
    let old = c.args.signals.now.items in
    let needs = needs_pin g.D.Device.table (view_declared c.args.declared.now) in
    let other : (nat_lt (length old) 32 && needs) ≡ false = ap (λ xs. nat_lt (length xs) 32 && needs) (sym c.as_slice.ensures.value) ∙ (sym c.is_added.ensures ∙ c.if-not-is_added.true) in
    sym (ap (λ b. if b then old ++ c.args.number ∷ [] else old) other)

pub returns : goal.returns
returns g c =
    let old = c.args.signals.now.items in
    let needs = needs_pin g.D.Device.table (view_declared c.args.declared.now) in
    let added : (nat_lt (length old) 32 && needs) ≡ true = ap (λ xs. nat_lt (length xs) 32 && needs) (sym c.as_slice.ensures.value) ∙ (sym c.is_added.ensures ∙ c.if-not-is_added.false) in
    c.in_ok-push.ensures.items ∙ sym (ap (λ b. if b then old ++ c.args.number ∷ [] else old) added)
