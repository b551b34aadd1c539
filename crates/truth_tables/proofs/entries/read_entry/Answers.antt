-- Refused inside, no pair left, a pair that doesn't meet, and one that does.
use Rattle.std.proofs.Common.{true, false, ◌≡◌, Option, None, Some, [], ◌∷◌, ◌++◌, map, refl, sym, ap, ◌∙◌, subst, subst₂, arith}
use Rattle.truth_tables.proofs.Common.{common_steps, names_found, refused_inside, first_refusal, meets, none_refused, section_order, sample, view, Term, term_of, map_reverse, SectionFault, context_for, Pair, view_mark, IsPair, meeting, seen, part_parts, Walked, entries_of, expression_found, IsClearPair}
use Rattle.truth_tables.proofs.ClearNames.{found_clear, inside_clear}
use Rattle.truth_tables.proofs.PartLaws.{part_counted}
use Rattle.truth_tables.proofs.ReadLaws.{inside_first, inside_over, none_met, none_unmet}
use Rattle.truth_tables.proofs.RowsWalked.{is_over}
use Rattle.truth_tables.proofs.StackLaws.{top_stands, walk_begun, walk_done, walk_fewer, walk_on, walk_stops}
use Rattle.truth_tables.proofs.entries.read_entry.Goals as goal

-- nothing is refused inside
clear : (f : Option SectionFault) → ((x : SectionFault) → f ≡ Some x → ⊥) → f ≡ None
clear None h = refl
clear (Some x) h = absurd (h x refl)

pub returns-in-Some : goal.returns-in-Some
returns-in-Some c d is =
    let t = view c.args.entry.now in
    inside_first (refused_inside (names_found d.names) c.args.row t) c.args.row c.in-Some.fault (meets d (term_of d.known (view c.args.header.now)) (term_of d.known t))
    (sym c.in-Some.is ∙ inside_over c.args.scope.now d is c.args.row t c.in_ok-inside.inside c.in_ok-inside.ensures)

pub loop-pair-init : goal.loop-pair-init
loop-pair-init c d is =
    let t : Term × Term = (term_of d.known (view c.args.header.now), term_of d.known (view c.args.entry.now)) in
    let pair : Pair = record { header = c.part_of.result; given = c.part_of-2.result } in
    let ns = names_found (entries_of c.args.scope.now) in
    let header = found_clear true ns (view c.args.header.now) (none_refused section_order (expression_found (entries_of c.args.scope.now) (view c.args.header.now)).refusals (sym c.requires)) in
    let given = inside_clear ns c.args.row (view c.args.entry.now) (none_refused section_order (refused_inside ns c.args.row (view c.args.entry.now)) (sym (clear c.in_ok-inside.inside c.in_default.not-Some) ∙ c.in_ok-inside.ensures)) in
    subst₂ (λ st ms. Walked (IsPair d) (meeting d) t st (seen ms)) (sym (c.in_ok-push.ensures.items ∙ ap (λ xs. xs ++ pair ∷ []) c.new-stack.ensures.items)) (sym c.new-marks.ensures.items)
    (walk_begun (IsPair d) (meeting d) t pair
    (c.part_of.ensures.part d is, c.part_of-2.ensures.part d is, subst (λ es. IsClearPair (names_found es) pair) (sym is.names) (record { header = c.part_of.ensures.clear true header; given = c.part_of-2.ensures.clear false given })))

pub returns : goal.returns
returns c d is =
    let t : Term × Term = (term_of d.known (view c.args.header.now), term_of d.known (view c.args.entry.now)) in
    let out = c.loop-pair.marks.items in
    let empty : c.loop-pair.stack.items ≡ [] = grind (arith, common_steps) in
    let w = walk_done (IsPair d) (meeting d) t c.loop-pair.stack.items (seen out) empty (c.loop-pair.invariant d is) in
    let rs = refused_inside (names_found d.names) c.args.row (view c.args.entry.now) in
    let none = none_refused section_order rs (sym (clear c.in_ok-inside.inside c.in_default.not-Some) ∙ inside_over c.args.scope.now d is c.args.row (view c.args.entry.now) c.in_ok-inside.inside c.in_ok-inside.ensures) in (
      none_met rs c.args.row _ none w.0,
      ap (map view_mark) c.reverse.ensures.items ∙ map_reverse view_mark out ∙ sym w.1,
    )

pub returns-then-not-branch : goal.returns-then-not-branch
returns-then-not-branch c d is =
    let rs = refused_inside (names_found d.names) c.args.row (view c.args.entry.now) in
    let none = none_refused section_order rs (sym (clear c.in_ok-inside.inside c.in_default.not-Some) ∙ inside_over c.args.scope.now d is c.args.row (view c.args.entry.now) c.in_ok-inside.inside c.in_ok-inside.ensures) in
    ap (first_refusal section_order) (none_unmet rs c.args.row _ none
    (walk_stops (IsPair d) (meeting d) _ _ _ _ _ _ _ _ c.in-Some-pop.ensures.items (c.loop-pair.invariant d is) (λ u q. c.in_ok-step.ensures d u.0 u.1 is q.0 q.1) c.if-not-branch.true))

pub loop-pair-preserved : goal.loop-pair-preserved
loop-pair-preserved c d is =
    walk_on (IsPair d) (meeting d) _ _ _ _ _ _ _ _ c.in-Some-pop.ensures.items (c.loop-pair.invariant d is) (λ u q. c.in_ok-step.ensures d u.0 u.1 is q.0 q.1) c.if-not-branch.false

pub loop-pair-smaller : goal.loop-pair-smaller
loop-pair-smaller c =
    let n = c.args.scope.now in
    let d = context_for sample n in
    let is = is_over sample n in
    walk_fewer (IsPair d) (meeting d) _ _ _ _ _ _ _ _ c.in-Some-pop.ensures.items (c.loop-pair.invariant d is) (λ u q. c.in_ok-step.ensures d u.0 u.1 is q.0 q.1) (λ (p : Pair). part_parts d.known p.header) (λ p u q. part_counted d p.header u.0 q.0) c.if-not-branch.false

pub step-requires : goal.step-requires
step-requires c =
    let d = context_for sample c.args.scope.now in
    let w = c.loop-pair.invariant d (is_over sample c.args.scope.now) in
    (top_stands (IsPair d) _ _ _ w.terms c.in-Some-pop.ensures.items w.stand).one.2
