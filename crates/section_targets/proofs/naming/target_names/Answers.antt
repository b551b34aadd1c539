-- One name more, and all names.
use Rattle.std.proofs.Common.{◌≡◌, ◌+◌, [], ◌∷◌, ◌++◌, map, take, drop, length, sym, ap, subst, subst₂, ◌∙◌, arith}
use Rattle.section_targets.proofs.Common.{map-append, take-append-drop, length-map, entries_of, view_declared, known_of, term_meant, AreOfTerms, IsOfTerm, StandFor}
use Rattle.set_expr.proofs.FoundMembers.{front_long, front_more, whole_front}
use Rattle.section_targets.proofs.NameTerms.{known_more, terms_push, stand_front, stand_all}
use Rattle.section_targets.proofs.naming.target_names.Goals as goal

pub loop-number-preserved : goal.loop-number-preserved
loop-number-preserved c =
    let ds = c.list-declared-items.result.now in
    let l = c.loop-number in
    let d = c.declared-item.result in
    let es = map view_declared (take l.number ds) in
    let here : map view_declared (take (l.number + 1) ds) ≡ es ++ view_declared d ∷ [] = front_more view_declared ds l.number d c.loop-number-test.true c.declared-item.is in
    let split : es ++ map view_declared (drop l.number ds) ≡ entries_of c.args.scope.now = sym (map-append view_declared (take l.number ds) (drop l.number ds)) ∙ ap (map view_declared) (take-append-drop l.number ds) ∙ ap (map view_declared) c.list-declared-items.ensures in
    let size : length es ≡ l.number = front_long view_declared ds l.number (omega (arith, c.loop-number-test.true)) in
    let front : StandFor (length ds) (entries_of c.args.scope.now) l.named.items (known_of es) = subst (λ xs. StandFor (length ds) xs l.named.items (known_of es)) split (stand_front (length ds) es (map view_declared (drop l.number ds)) l.named.items l.invariant) in
    let one = c.in_ok-signals.ensures (length ds) (known_of es) c.loop-number-test.true (subst (λ ns. StandFor (length ds) (entries_of c.args.scope.now) ns (known_of es)) (sym c.as_slice.ensures.value) front) in
    subst₂ (AreOfTerms (length ds)) (sym c.in_ok-push.ensures.items) (sym (ap known_of here ∙ known_more [] 0 es (view_declared d)))
    (terms_push (length ds) l.named.items (known_of es) c.in_ok-signals.signals _ l.invariant (subst (λ n. IsOfTerm (length ds) c.in_ok-signals.signals (term_meant (known_of es) n (view_declared d).kind)) (omega (arith, size)) one))

pub returns : goal.returns
returns c =
    let ds = c.list-declared-items.result.now in
    let es = entries_of c.args.scope.now in
    let l = c.loop-number in
    let all : map view_declared (take l.number ds) ≡ es = whole_front view_declared ds l.number c.loop-number-test.false ∙ ap (map view_declared) c.list-declared-items.ensures in
    let terms : AreOfTerms (length ds) l.named.items (known_of es) = subst (λ xs. AreOfTerms (length ds) l.named.items (known_of xs)) all l.invariant in
    subst₂ (λ n ns. StandFor n es ns (known_of es)) (sym (length-map ds view_declared) ∙ ap (λ xs. length (map view_declared xs)) c.list-declared-items.ensures) (sym c.from_vec.ensures) (stand_all (length ds) es l.named.items terms)
