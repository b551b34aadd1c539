-- The members, and the names of a range, from this one on are there.
use Rattle.std.proofs.Common.{ℕ, List, drop, map}
use Rattle.section_targets.proofs.Common.{entries_of, members_of, view_member, Known, Terms, terms_of, named_before, name_items, IsOfMembers, StandFor}
use Rattle.section_targets.proofs.naming.+naming.Given as goal

abbrev pub invariant-named_expr-loop-index : goal.invariant-named_expr-loop-index
invariant-named_expr-loop-index l =
    (count : ℕ) (ks : List Known) → StandFor count (entries_of l.targets.scope.now) l.targets.named.now ks
    → IsOfMembers count l.signals (terms_of ks (members_of (map view_member (drop l.index l.list))))

abbrev pub invariant-named_member-loop-index : goal.invariant-named_member-loop-index
invariant-named_member-loop-index l =
    (count : ℕ) (ks : List Known) (ts : Terms) → StandFor count (entries_of l.targets.scope.now) l.targets.named.now ks → IsOfMembers count l.fn.rest ts
    → IsOfMembers count l.signals (named_before ks (map name_items (drop l.index l.names)) ts)
