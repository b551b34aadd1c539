-- The names that were looked up have their parts; nothing is refused of these if nothing is of any name.
use Rattle.std.proofs.Common.{Bool, map, take}
use Rattle.truth_tables.proofs.Common.{Context, NoTerm, entries_of, names_found, named_before, name_items, list_of, each_extended, AreClearNames, AreClearParts, IsOver, AreParts}
use Rattle.truth_tables.proofs.parts.member_parts.Given as goal

abbrev pub invariant-loop-name : goal.invariant-loop-name
invariant-loop-name l =
    record {
      parts : (d : Context) → IsOver l.scope d
          → AreParts d l.parts.items (each_extended l.outer (list_of (named_before d.known (map name_items (take l.name-index l.name-items)) NoTerm)));
      clear : (b : Bool) → AreClearNames (names_found (entries_of l.scope)) (map name_items l.name-items) → AreClearParts b (names_found (entries_of l.scope)) l.parts.items;
    }
