-- It begins if the whole does.
use Rattle.std.proofs.Common.{◌≡◌, List}
use Rattle.section_targets.proofs.Common.{Entry, view, first_place, first_name}
use Rattle.section_targets.proofs.siding.refuse_operator.Given as goal

abbrev pub invariant-loop-first : goal.invariant-loop-first
invariant-loop-first l =
    (first_place (view l.first) ≡ first_place (view l.expr)) × ((es : List Entry) → first_name es (view l.first) ≡ first_name es (view l.expr))
