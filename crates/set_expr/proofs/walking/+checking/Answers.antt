-- One operator down, one back up, and one member more.
use Rattle.std.proofs.Common.{◌≡◌, ◌<◌, ◌+◌, [], ◌∷◌, ◌++◌, map, take, sym, ap, ap₂, subst, ◌∙◌, arith, append_assoc}
use Rattle.set_expr.proofs.Common.{map_push, range_names, members_of, view, view_member, size-Expr, name_items, names_found, name_found, all_found, found_before, found_of, found_use, range_found, SumsUp, AreSummedUp, found_set}
use Rattle.abel_tree.specs.declared.expressions.Expr as expr
use Rattle.set_expr.proofs.FoundMembers.{front_more, whole_front, members_more, range_more, view_set, view_span}
use Rattle.set_expr.proofs.Spine.{seen, Down, Up, goes_down, goes_up, up_right}
use Rattle.set_expr.proofs.walking.+checking.Goals as goal

pub check_expr-down-preserved : goal.check_expr-down-preserved
check_expr-down-preserved t c =
    let e : map seen c.push.new.self.items ≡ map seen c.down.links.items ++ (c.in-Binary.sign, c.in-Binary.place, c.get.result.now) ∷ [] = rw c.in_ok-push.ensures.items (map_push seen c.down.links.items (c.in-Binary.sign, c.in-Binary.place, c.get.result)) in
    let d : Down (expr.Binary c.in-Binary.sign c.in-Binary.place c.in-Binary.left c.in-Binary.right) (map seen c.down.links.items) c.args.expr.now = subst (λ x. Down x (map seen c.down.links.items) c.args.expr.now) c.in-Binary.is c.down.invariant in
    rw (e, c.get-first.ensures, c.get.ensures) (goes_down c.in-Binary.sign c.in-Binary.place c.in-Binary.left c.in-Binary.right (map seen c.down.links.items) c.args.expr.now d)

pub check_expr-check_expr-requires : goal.check_expr-check_expr-requires
check_expr-check_expr-requires t c =
    let e : map seen c.up.links.items ≡ map seen c.pop.new.self.items ++ (c.in-Some.sign, c.in-Some.place, c.in-Some.right.now) ∷ [] = rw c.in-Some.ensures.items (map_push seen c.pop.new.self.items (c.in-Some.sign, c.in-Some.place, c.in-Some.right)) in
    let below : size-Expr c.in-Some.right.now < size-Expr c.args.expr.now = up_right c.args.known.now c.up.found (map seen c.pop.new.self.items) c.in-Some.sign c.in-Some.place c.in-Some.right.now c.args.expr.now (subst (λ xs. Up c.args.known.now c.up.found xs c.args.expr.now) e c.up.invariant) in
    (omega (arith, below, c.decreases), tt)

pub check_expr-up-preserved : goal.check_expr-up-preserved
check_expr-up-preserved t c =
    let e : map seen c.up.links.items ≡ map seen c.pop.new.self.items ++ (c.in-Some.sign, c.in-Some.place, c.in-Some.right.now) ∷ [] = rw c.in-Some.ensures.items (map_push seen c.pop.new.self.items (c.in-Some.sign, c.in-Some.place, c.in-Some.right)) in
    goes_up c.args.known.now c.up.found c.in_ok-other.other c.check_both-found.result (map seen c.pop.new.self.items) c.in-Some.sign c.in-Some.place c.in-Some.right.now c.args.expr.now
    (subst (λ xs. Up c.args.known.now c.up.found xs c.args.expr.now) e c.up.invariant)
    c.in_ok-other.ensures
    c.check_both-found.ensures

pub check_expr-up-init : goal.check_expr-up-init
check_expr-up-init t c = record { first = c.down.first.now; same = c.down.invariant.same; sums = c.in_ok-found.ensures }

pub check_level-loop-member-init : goal.check_level-loop-member-init
check_level-loop-member-init t c es k = c.new-parts.ensures c.in-Set.place

pub check_level-loop-member-preserved : goal.check_level-loop-member-preserved
check_level-loop-member-preserved t c es k =
    let ns = names_found es in
    let ms = c.as_slice-member-items.result.now in
    let i = c.loop-member.member-index in
    let here : map view_member (take (i + 1) ms) ≡ map view_member (take i ms) ++ view_member c.member-item.result ∷ [] = front_more view_member ms i c.member-item.result c.loop-member-test.true c.member-item.is in
    subst (λ gs. AreSummedUp c.in-Set.place c.in_ok-parts-in-Set.parts gs)
    (sym (members_more ns (map view_member (take i ms)) (view_member c.member-item.result)) ∙ ap (λ xs. all_found ns (members_of xs)) (sym here))
    (c.in_ok-parts-in-Set.ensures es (all_found ns (members_of (map view_member (take i ms)))) k (c.loop-member.invariant es k))

pub check_level-returns-after-loop-member : goal.check_level-returns-after-loop-member
check_level-returns-after-loop-member t c es k =
    let ns = names_found es in
    let ms = c.as_slice-member-items.result.now in
    let all : map view_member (take c.loop-member.member-index ms) ≡ map view_member c.in-Set.members = whole_front view_member ms c.loop-member.member-index c.loop-member-test.false ∙ ap (map view_member) c.as_slice-member-items.ensures in
    subst (λ f. SumsUp c.whole.result f)
    (ap (λ xs. found_set c.in-Set.place (all_found ns (members_of xs))) all ∙ (sym (view_set c.in-Set.place c.in-Set.members c.in-Set.extension ns) ∙ ap (λ e. found_of ns (view e)) (sym c.in-Set.is)))
    (c.whole.ensures (all_found ns (members_of (map view_member (take c.loop-member.member-index ms)))) (c.loop-member.invariant es k))

pub check_member-loop-name-preserved : goal.check_member-loop-name-preserved
check_member-loop-name-preserved t c es fs k s =
    let ns = names_found es in
    let p = c.in-Span.first.place in
    let text = c.name-item.result.items in
    let all = c.as_slice-name-items.result.now in
    let before = map name_items (take c.loop-name.name-index all) in
    let here : map name_items (take (c.loop-name.name-index + 1) all) ≡ before ++ text ∷ [] = front_more name_items all c.loop-name.name-index c.name-item.result c.loop-name-test.true c.name-item.is in
    let use_found : SumsUp c.checked_name.result (found_use p (name_found ns text)) = subst (λ t. SumsUp c.checked_name.result (found_use p (name_found ns t))) c.as_slice.ensures.value (c.checked_name.ensures es k) in
    subst (λ gs. AreSummedUp c.args.place c.with-members.result gs)
    (append_assoc fs (range_found ns p before []) (found_use p (name_found ns text) ∷ [])
    ∙ ap (λ gs. fs ++ gs) (sym (range_more ns p before text) ∙ ap (λ names. range_found ns p names []) (sym here)))
    (c.with-members.ensures (fs ++ range_found ns p before []) (found_use p (name_found ns text)) (c.loop-name.invariant es fs k s) use_found)

pub check_member-returns-after-loop-name : goal.check_member-returns-after-loop-name
check_member-returns-after-loop-name t c es fs k s =
    let ns = names_found es in
    let all : map name_items (take c.loop-name.name-index c.as_slice-name-items.result.now) ≡ range_names c.in-Span.first.text c.in-Span.last.text =
    whole_front name_items c.as_slice-name-items.result.now c.loop-name.name-index c.loop-name-test.false
    ∙ (ap (map name_items) c.as_slice-name-items.ensures.value ∙ (c.in_ok-names-in-Span.ensures ∙ ap₂ range_names c.bytes.ensures c.bytes-in-Span.ensures)) in
    subst (λ gs. AreSummedUp c.args.place c.loop-name.members (fs ++ gs))
    (ap (λ names. range_found ns c.in-Span.first.place names []) all
    ∙ (sym (view_span c.in-Span.first c.in-Span.last ns) ∙ ap (λ m. found_before ns (view_member m) []) (sym c.in-Span.is)))
    (c.loop-name.invariant es fs k s)
