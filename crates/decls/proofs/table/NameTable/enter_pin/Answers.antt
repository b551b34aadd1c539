-- The pin is kept as the table keeps it; a name without a number is on pin 0.
use Rattle.std.proofs.Common.{refl, sym, subst, ap}
use Rattle.decls.proofs.Common.{on_ok_weaker, APin, Shows, view_given, view_said, pin_numbered}
use Rattle.decls.proofs.table.NameTable.enter_pin.Goals as goal

pub returns-in_ok-put_on-in-Some : goal.returns-in_ok-put_on-in-Some
returns-in_ok-put_on-in-Some c =
    let given = c.args.given.now in
    on_ok_weaker c.enter_given.result
    (λ h t s shown.
    let on = c.in_ok-put_on-in-Some.ensures t s shown in
    subst (λ n. Shows t c.enter_given.new.self (pin_numbered t (view_said c.args.said) (view_given given) n s)) (sym c.in-Some.is)
    (h t _ (APin c.in-Some.number given.negated) (ap (λ p. APin p given.negated) (c.kept_pin-pin.ensures t _ on)) on))
    c.enter_given.ensures

pub returns-in-None : goal.returns-in-None
returns-in-None c =
    let given = c.args.given.now in
    on_ok_weaker c.enter_given-in-None.result
    (λ h t s shown.
    subst (λ n. Shows t c.enter_given-in-None.new.self (pin_numbered t (view_said c.args.said) (view_given given) n s)) (sym c.in-None.is)
    (h t s (APin 0 given.negated) refl shown))
    c.enter_given-in-None.ensures
