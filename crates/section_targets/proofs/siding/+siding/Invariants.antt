-- The members, and the names of a range, from this one on are there.
use Rattle.std.proofs.Common.{◌≡◌, length, drop, map}
use Rattle.section_targets.proofs.Common.{entries_of, members_of, view_member, Context, name_items, IsSide, AreTargets, TargetFound, target_members, target_range, targets_both}
use Rattle.section_targets.proofs.siding.+siding.Given as goal

abbrev pub invariant-set_side-loop-index : goal.invariant-set_side-loop-index
invariant-set_side-loop-index l =
    (d : Context) → d.names ≡ entries_of l.targets.scope.now → AreTargets d l.targets.named.now
    → IsSide (length d.names) l.side (target_members d (members_of (map view_member (drop l.index l.members))))

abbrev pub invariant-with_member-loop-index : goal.invariant-with_member-loop-index
invariant-with_member-loop-index l =
    (d : Context) (x : TargetFound) → d.names ≡ entries_of l.targets.scope.now → AreTargets d l.targets.named.now → IsSide (length d.names) l.fn.rest x
    → IsSide (length d.names) l.side (targets_both (target_range d l.place (map name_items (drop l.index l.names))) x)
