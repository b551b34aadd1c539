-- One name more, and all names.
use Rattle.std.proofs.Common.{◌≡◌, ◌+◌, ◌∷◌, [], ◌++◌, Some, None, bytes_eq, if◌then◌else◌, map, take, length, refl, sym, ap, subst, ◌∙◌, arith}
use Rattle.set_expr.proofs.Common.{option_or, view_declared, KnownName, IsKnown, under}
use Rattle.set_expr.proofs.FoundMembers.{front_more, front_long, whole_front}
use Rattle.set_expr.proofs.NamesMore.{known_more}
use Rattle.set_expr.proofs.learning.known_names.Goals as goal

pub loop-number-init : goal.loop-number-init
loop-number-init c = subst (λ t. IsKnown [] t) (sym c.new-known.ensures) (record { names = λ w. tt; places = λ w. refl; fault = refl })

pub loop-number-preserved : goal.loop-number-preserved
loop-number-preserved c =
    let ds = c.as_slice-declared-items.result.now in
    let l = c.loop-number in
    let d = c.declared-item.result in
    let es = map view_declared (take l.number ds) in
    let here : map view_declared (take (l.number + 1) ds) ≡ es ++ view_declared d ∷ [] = front_more view_declared ds l.number d c.loop-number-test.true c.declared-item.is in
    let long : length es ≡ l.number = front_long view_declared ds l.number (omega (arith, c.loop-number-test.true)) in
    let name : KnownName = record { number = l.number; checked = c.in_ok-checked.checked; pulse = c.in_ok-checked.pulse } in
    subst (λ xs. IsKnown xs c.keep.new.self) (sym here)
    (known_more es (view_declared d) l.known c.keep.new.self name l.invariant
    (record { checked = c.in_ok-checked.ensures.checked es l.invariant; pulse = c.in_ok-checked.ensures.pulse }) (sym long)
    (λ w. c.in_ok-keep.ensures.names w ∙ ap (λ t. option_or (under l.known.names w) (if bytes_eq w t then Some name else None)) c.bytes.ensures)
    c.in_ok-keep.ensures.fault)

pub returns : goal.returns
returns c =
    subst (λ es. IsKnown es c.loop-number.known)
    (whole_front view_declared c.as_slice-declared-items.result.now c.loop-number.number c.loop-number-test.false ∙ ap (map view_declared) c.as_slice-declared-items.ensures)
    c.loop-number.invariant
