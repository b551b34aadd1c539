-- The members so far have their parts; nothing is refused of these if nothing is of any member.
use Rattle.std.proofs.Common.{Bool, map, take}
use Rattle.truth_tables.proofs.Common.{entries_of, members_of, view_member, Context, names_found, terms_of, list_of, each_extended, AreClear, AreClearParts, IsOver, AreParts}
use Rattle.truth_tables.proofs.parts.parts_of.Given as goal

abbrev pub invariant-loop-member : goal.invariant-loop-member
invariant-loop-member l =
    record {
      parts : (d : Context) → IsOver l.scope d
          → AreParts d l.parts.items (each_extended l.outer (list_of (terms_of d.known (members_of (map view_member (take l.member-index l.members))))));
      clear : (b : Bool) → AreClear b (names_found (entries_of l.scope)) (members_of (map view_member l.members)) → AreClearParts b (names_found (entries_of l.scope)) l.parts.items;
    }
