-- The names of the members so far are listed.
use Rattle.std.proofs.Common.{◌≡◌, ◌++◌, map, take}
use Rattle.name_uses.proofs.Common.{view_member, view_use}
use Rattle.name_uses.proofs.TargetMembers.{listed_targets}
use Rattle.name_uses.proofs.targets.+targets.Given as goal

abbrev pub invariant-put_member_targets-loop-member : goal.invariant-put_member_targets-loop-member
invariant-put_member_targets-loop-member l = map view_use l.uses.items ≡ map view_use l.fn.uses.items ++ listed_targets (map view_member (take l.member-index l.members))
