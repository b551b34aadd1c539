-- What holds one of them on the way down, and among a set's members from here on.
use Rattle.std.proofs.Common.{◌≡◌, ◌||◌, ◌≤◌, map, drop}
use Rattle.truth_tables.proofs.Common.{size-Expr, entries_of, members_of, view, view_member, names_found, holds_pulse, any_holds_pulse}
use Rattle.truth_tables.proofs.inside.+pulses.Given as goal

abbrev pub decreases-holds_pulse-down : goal.decreases-holds_pulse-down
decreases-holds_pulse-down l = size-Expr l.first

abbrev pub invariant-holds_pulse-down : goal.invariant-holds_pulse-down
invariant-holds_pulse-down l =
    record {
      holds : (l.found || holds_pulse (names_found (entries_of l.scope)) (view l.first)) ≡ holds_pulse (names_found (entries_of l.scope)) (view l.expr);
      size : size-Expr l.first ≤ size-Expr l.expr;
    }

abbrev pub invariant-holds_pulse-loop-member : goal.invariant-holds_pulse-loop-member
invariant-holds_pulse-loop-member l =
    let ns = names_found (entries_of l.scope) in
    (l.found || any_holds_pulse ns (members_of (map view_member (drop l.member-index l.member-items)))) ≡ holds_pulse ns (view l.expr)
