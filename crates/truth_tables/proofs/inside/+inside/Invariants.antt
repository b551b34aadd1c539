-- The members and the names of a range from here on are left.
use Rattle.std.proofs.Common.{◌≡◌, map, drop}
use Rattle.truth_tables.proofs.Common.{earlier, entries_of, first_refusal, members_of, view_member, name_items, names_found, section_order, all_refused_inside, names_refused}
use Rattle.truth_tables.proofs.inside.+inside.Given as goal

abbrev pub invariant-refuse_inside-loop-member : goal.invariant-refuse_inside-loop-member
invariant-refuse_inside-loop-member l =
    let rest = all_refused_inside (names_found (entries_of l.scope)) l.row in
    earlier section_order l.fault (first_refusal section_order (rest (members_of (map view_member (drop l.member-index l.member-items)))))
    ≡ first_refusal section_order (rest (members_of (map view_member l.member-items)))

abbrev pub invariant-refuse_member-loop-name : goal.invariant-refuse_member-loop-name
invariant-refuse_member-loop-name l =
    let rest = names_refused (names_found (entries_of l.scope)) in
    earlier section_order l.fault (first_refusal section_order (rest (map name_items (drop l.name-index l.name-items))))
    ≡ first_refusal section_order (rest (map name_items l.name-items))
