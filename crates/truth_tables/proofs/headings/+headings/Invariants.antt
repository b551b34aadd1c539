-- The members or names from here on are left.
use Rattle.std.proofs.Common.{Option, List, drop, map}
use Rattle.truth_tables.proofs.Common.{members_of, view_member, earlier, section_order, Context, Aim, SectionFault, name_items, IsOver, header_range, output_members, IsAdded}
use Rattle.truth_tables.proofs.headings.+headings.Given as goal

abbrev pub invariant-push_set-loop-member : goal.invariant-push_set-loop-member
invariant-push_set-loop-member l =
    (d : Context) → IsOver l.scope d
    → (f : Option SectionFault) (later : List (Option Aim)) → IsAdded (output_members d (members_of (map view_member (drop l.member-index l.members)))) f l.outputs.items later
    → IsAdded (output_members d (members_of (map view_member l.members))) (earlier section_order l.fault f) l.fn.outputs.items later

abbrev pub invariant-push_member-loop-text : goal.invariant-push_member-loop-text
invariant-push_member-loop-text l =
    (d : Context) → IsOver l.scope d
    → (f : Option SectionFault) (later : List (Option Aim)) → IsAdded (header_range d l.first.place (map name_items (drop l.text-index l.text-items))) f l.outputs.items later
    → IsAdded (header_range d l.first.place (map name_items l.text-items)) (earlier section_order l.fault f) l.fn.outputs.items later
