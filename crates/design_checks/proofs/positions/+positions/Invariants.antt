-- The members so far, and the names of a range.
use Rattle.std.proofs.Common.{◌≡◌, map, take}
use Rattle.design_checks.proofs.Common.{members_of, view_member, Context, NoTerm, name_items, named_before, terms_of, Knows, all_positions}
use Rattle.design_checks.proofs.positions.+positions.Given as goal

abbrev pub invariant-positions_of-loop-member : goal.invariant-positions_of-loop-member
invariant-positions_of-loop-member l =
    (d : Context) → Knows d l.names
    → l.positions ≡ all_positions d (terms_of d.known (members_of (map view_member (take l.member-index l.member-items))))

abbrev pub invariant-member_positions-loop-name : goal.invariant-member_positions-loop-name
invariant-member_positions-loop-name l =
    (d : Context) → Knows d l.names
    → l.positions ≡ all_positions d (named_before d.known (map name_items (take l.name-index l.name-items)) NoTerm)
