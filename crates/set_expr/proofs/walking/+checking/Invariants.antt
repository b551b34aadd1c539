-- What was checked of operators in a row and of a set's members.
use Rattle.std.proofs.Common.{◌+◌, ◌*◌, List, [], ◌++◌, length, take, map}
use Rattle.set_expr.proofs.Common.{Entry, members_of, view_member, size-Expr, size-Member, name_items, names_found, all_found, range_found, IsKnown, AreSummedUp, Found}
use Rattle.set_expr.proofs.Spine.{seen, Down, Up}
use Rattle.set_expr.proofs.walking.+checking.Given as goal

abbrev pub decreases-check_expr : goal.decreases-check_expr
decreases-check_expr l = 2 * size-Expr l.expr.now + 1

abbrev pub decreases-check_level : goal.decreases-check_level
decreases-check_level l = 2 * size-Expr l.expr.now

abbrev pub decreases-check_member : goal.decreases-check_member
decreases-check_member l = 2 * size-Member l.member.now

abbrev pub invariant-check_expr-down : goal.invariant-check_expr-down
invariant-check_expr-down l = Down l.first (map seen l.links.items) l.expr

abbrev pub decreases-check_expr-up : goal.decreases-check_expr-up
decreases-check_expr-up l = length l.links.items

abbrev pub invariant-check_expr-up : goal.invariant-check_expr-up
invariant-check_expr-up l = Up l.known l.found (map seen l.links.items) l.expr

abbrev pub invariant-check_level-loop-member : goal.invariant-check_level-loop-member
invariant-check_level-loop-member l =
    (es : List Entry) → IsKnown es l.known
    → AreSummedUp l.place l.parts (all_found (names_found es) (members_of (map view_member (take l.member-index l.member-items))))

abbrev pub invariant-check_member-loop-name : goal.invariant-check_member-loop-name
invariant-check_member-loop-name l =
    (es : List Entry) (fs : List Found) → IsKnown es l.known → AreSummedUp l.place l.fn.before fs
    → AreSummedUp l.place l.members (fs ++ range_found (names_found es) l.first.place (map name_items (take l.name-index l.name-items)) [])
