-- No part is left, a part that is something else, and one that isn't.
use Rattle.std.proofs.Common.{◌≡◌, [], ◌∷◌, ◌++◌, reverse, sym, ap, ◌∙◌, subst₂, arith}
use Rattle.truth_tables.proofs.Common.{common_steps, sample, context_for, part_parts, IsPart, listing, Walked}
use Rattle.truth_tables.proofs.PartLaws.{part_counted}
use Rattle.truth_tables.proofs.RowsWalked.{is_over}
use Rattle.truth_tables.proofs.StackLaws.{walk_begun, walk_done, walk_fewer, walk_on, walk_stops}
use Rattle.truth_tables.proofs.parts.part_signals.Goals as goal

pub loop-top-init : goal.loop-top-init
loop-top-init c d t is p =
    subst₂ (λ st ss. Walked (IsPart d) listing t st (reverse ss)) (sym (c.in_ok-push.ensures.items ∙ ap (λ xs. xs ++ c.args.part ∷ []) c.new-stack.ensures.items)) (sym c.new-signals.ensures.items)
    (walk_begun (IsPart d) listing t c.args.part p)

pub returns : goal.returns
returns c d t is p =
    let empty : c.loop-top.stack.items ≡ [] = grind (arith, common_steps) in
    let w = walk_done (IsPart d) listing t c.loop-top.stack.items (reverse c.loop-top.signals.items) empty (c.loop-top.invariant d t is p) in
    (w.0, c.reverse.ensures.items ∙ sym w.1)

pub returns-then-not-branch : goal.returns-then-not-branch
returns-then-not-branch c d t is p =
    walk_stops (IsPart d) listing t _ _ _ _ _ _ _ c.in-Some.ensures.items (c.loop-top.invariant d t is p) (λ u q. c.in_ok-put_part.ensures d u is q) c.if-not-branch.true

pub loop-top-preserved : goal.loop-top-preserved
loop-top-preserved c d t is p =
    walk_on (IsPart d) listing t _ _ _ _ _ _ _ c.in-Some.ensures.items (c.loop-top.invariant d t is p) (λ u q. c.in_ok-put_part.ensures d u is q) c.if-not-branch.false

pub loop-top-smaller : goal.loop-top-smaller
loop-top-smaller c =
    let n = c.args.scope.now in
    let d = context_for sample n in
    let is = is_over sample n in
    let p = c.requires d is in
    walk_fewer (IsPart d) listing p.term _ _ _ _ _ _ _ c.in-Some.ensures.items (c.loop-top.invariant d p.term is p.is) (λ u q. c.in_ok-put_part.ensures d u is q) (part_parts d.known) (part_counted d) c.if-not-branch.false
