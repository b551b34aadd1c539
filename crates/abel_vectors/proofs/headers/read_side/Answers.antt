-- An expression that is refused, something else, pins, and signals that are no pins.
use Rattle.std.proofs.Common.{◌≡◌, List, ◌&&◌, sym, ap, ap₂, ◌∙◌, subst}
use Rattle.abel_vectors.proofs.Common.{list_all, first_refusal, none_refused, view, Entry, Tree, targets_of, term_of, BadVector, section_order, is_pin_or_unknown, names_pins, expression_found}
use Rattle.truth_tables.proofs.ReadLaws.{inside_first, none_met, none_unmet}
use Rattle.set_expr.specs.KnownNames.{SumsUp}
use Rattle.set_expr.specs.declared.checked.Checked.{Checked}
use Rattle.truth_tables.specs.HeaderSignals.{AreSignals}
use Rattle.abel_vectors.proofs.headers.read_side.Goals as goal

-- the expression over names that are the same
fault_of : (c : Checked) (es ns : List Entry) (t : Tree) → ns ≡ es → SumsUp c (expression_found es t) → c.fault ≡ first_refusal section_order (expression_found ns t).refusals
fault_of c es ns t same found = found.fault ∙ ap (λ xs. first_refusal section_order (expression_found xs t).refusals) (sym same)

pub returns-in-Some : goal.returns-in-Some
returns-in-Some c d is =
    let t = view c.args.side.now in
    inside_first (expression_found d.names t).refusals (BadVector c.args.place) c.in-Some.fault (names_pins d (term_of d.known t)) (sym c.in-Some.is ∙ fault_of c.in_ok-found.found _ d.names t is.names c.in_ok-found.ensures)

pub returns-in-None : goal.returns-in-None
returns-in-None c d is =
    let t = view c.args.side.now in
    let none = none_refused section_order (expression_found d.names t).refusals (sym c.in_default.is ∙ fault_of c.in_ok-found.found _ d.names t is.names c.in_ok-found.ensures) in
    let other = subst (AreSignals (term_of d.known t)) c.in-None.is (c.in_ok-named.ensures d is) in
    ap (first_refusal section_order)
    (none_unmet (expression_found d.names t).refusals (BadVector c.args.place) (names_pins d (term_of d.known t)) none
    (ap (λ b. b && list_all (is_pin_or_unknown d.names) (targets_of (term_of d.known t))) other))

pub returns-then-are_pins_or_unknown : goal.returns-then-are_pins_or_unknown
returns-then-are_pins_or_unknown c d is =
    let t = view c.args.side.now in
    let none = none_refused section_order (expression_found d.names t).refusals (sym c.in_default.is ∙ fault_of c.in_ok-found.found _ d.names t is.names c.in_ok-found.ensures) in
    let some = subst (AreSignals (term_of d.known t)) c.in-Some-named.is (c.in_ok-named.ensures d is) in
    let all = sym (c.are_pins_or_unknown.ensures ∙ ap₂ (λ es ss. list_all (is_pin_or_unknown es) ss) (sym is.names) (c.as_slice.ensures.value ∙ some.1)) ∙ c.if-are_pins_or_unknown.true in
    (none_met (expression_found d.names t).refusals (BadVector c.args.place) (names_pins d (term_of d.known t)) none (ap₂ (λ a b. a && b) some.0 all), some.1)

pub returns-else-are_pins_or_unknown : goal.returns-else-are_pins_or_unknown
returns-else-are_pins_or_unknown c d is =
    let t = view c.args.side.now in
    let none = none_refused section_order (expression_found d.names t).refusals (sym c.in_default.is ∙ fault_of c.in_ok-found.found _ d.names t is.names c.in_ok-found.ensures) in
    let some = subst (AreSignals (term_of d.known t)) c.in-Some-named.is (c.in_ok-named.ensures d is) in
    let all = sym (c.are_pins_or_unknown.ensures ∙ ap₂ (λ es ss. list_all (is_pin_or_unknown es) ss) (sym is.names) (c.as_slice.ensures.value ∙ some.1)) ∙ c.if-are_pins_or_unknown.false in
    ap (first_refusal section_order)
    (none_unmet (expression_found d.names t).refusals (BadVector c.args.place) (names_pins d (term_of d.known t)) none (ap₂ (λ a b. a && b) some.0 all))
