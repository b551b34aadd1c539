-- One name more, and all names.
use Rattle.std.proofs.Common.{◌≡◌, ◌+◌, ◌∷◌, [], ◌++◌, map, take, drop, length, get_or, refl, sym, ap, ap₂, subst, ◌∙◌, arith}
use Rattle.design_checks.proofs.Common.{map-append, take-append-drop, entries_of, view_declared, name_at, no_name, known_of, term_meant, context_for, front_long, front_more, whole_front, learning, uses_of, AreOfNames, values_of, NameUses}
use Rattle.design_checks.proofs.LearntName.{name_here}
use Rattle.design_checks.proofs.PlacedNames.{all_names, first_names, values_more}
use Rattle.design_checks.proofs.learning.learn_names.Goals as goal

pub loop-number-preserved : goal.loop-number-preserved
loop-number-preserved g c =
    let r = c.args.rule in
    let d = context_for g.D.Device.table c.args.scope.now in
    let ds = c.list-declared-items.result.now in
    let l = c.loop-number in
    let i = l.number in
    let x = c.declared-item.result in
    let es = map view_declared (take i ds) in
    let here : map view_declared (take (i + 1) ds) ≡ es ++ view_declared x ∷ [] = front_more view_declared ds i x c.loop-number-test.true c.declared-item.is in
    let size : length es ≡ i = front_long view_declared ds i (omega (arith, c.loop-number-test.true)) in
    let all : map view_declared ds ≡ entries_of c.args.scope.now = ap (map view_declared) c.list-declared-items.ensures in
    let named : name_at d i ≡ view_declared x =
    ap (λ xs. get_or xs i no_name) (sym all)
    ∙ name_here view_declared ds i x no_name c.loop-number-test.true c.declared-item.is in
    let split : es ++ map view_declared (drop i ds) ≡ entries_of c.args.scope.now = sym (map-append view_declared (take i ds) (drop i ds)) ∙ ap (map view_declared) (take-append-drop i ds) ∙ all in
    let kept : AreOfNames NameUses (uses_of r d) (entries_of c.args.scope.now) l.list.items (known_of es) = subst (λ xs. AreOfNames NameUses (uses_of r d) xs l.list.items (known_of es)) split (first_names (uses_of r d) es (map view_declared (drop i ds)) l.list.items l.invariant) in
    let one = c.in_ok-uses.ensures (learning d es) refl named (subst (λ us. AreOfNames NameUses (uses_of r d) (entries_of c.args.scope.now) us (known_of es)) (sym c.as_slice.ensures.value) kept) in
    c.in_ok-push.ensures.items
    ∙ ap₂ (λ us u. us ++ u ∷ []) l.invariant (one ∙ ap (λ n. uses_of r d (term_meant (known_of es) n (view_declared x).kind)) (sym size))
    ∙ sym (ap (λ xs. values_of (uses_of r d) (known_of xs)) here ∙ values_more (uses_of r d) es (view_declared x))

pub returns : goal.returns
returns g c =
    let r = c.args.rule in
    let d = context_for g.D.Device.table c.args.scope.now in
    let ds = c.list-declared-items.result.now in
    let l = c.loop-number in
    let all : map view_declared (take l.number ds) ≡ entries_of c.args.scope.now = whole_front view_declared ds l.number c.loop-number-test.false ∙ ap (map view_declared) c.list-declared-items.ensures in
    all_names (uses_of r d) (entries_of c.args.scope.now) l.list.items (subst (λ xs. l.list.items ≡ values_of (uses_of r d) (known_of xs)) all l.invariant)
