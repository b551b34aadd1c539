-- One member more, and all members.
use Rattle.std.proofs.Common.{◌≡◌, ◌+◌, [], ◌∷◌, ◌++◌, map, take, sym, ap, ◌∙◌, subst, subst₂}
use Rattle.truth_tables.proofs.Common.{members_of, view_member, NoTerm, terms_of, member_before, front_more, whole_front, list_of, each_extended, IsPart, AreParts, members_more, each_append, entries_of, names_found, AreClearParts}
use Rattle.truth_tables.proofs.ClearNames.{clear_append, members_at}
use Rattle.truth_tables.proofs.StackLaws.{each_append as parts_append}
use Rattle.truth_tables.proofs.parts.parts_of.Goals as goal

pub loop-member-init : goal.loop-member-init
loop-member-init c =
    record {
      parts = λ d is. subst (λ ps. AreParts d ps []) (sym c.new-parts.ensures.items) tt;
      clear = λ b h. subst (AreClearParts b (names_found (entries_of c.args.scope.now))) (sym c.new-parts.ensures.items) tt;
    }

pub loop-member-preserved : goal.loop-member-preserved
loop-member-preserved c =
    let ms = c.args.members.now in
    let i = c.loop-member.member-index in
    let ns = names_found (entries_of c.args.scope.now) in
    let items = c.in_ok-extend_from_slice.ensures.items ∙ ap (λ ps. c.loop-member.parts.items ++ ps) c.as_slice.ensures.value in
    record {
      parts = λ d is.
          let m = view_member c.member-item.result in
          let o = c.args.outer in
          let before = map view_member (take i ms) in
          let here : map view_member (take (i + 1) ms) ≡ before ++ m ∷ [] = front_more view_member ms i c.member-item.result c.loop-member-test.true c.member-item.is in
          let all = list_of (terms_of d.known (members_of before)) in
          subst₂ (AreParts d) (sym items)
          (sym (ap (λ xs. each_extended o (list_of (terms_of d.known (members_of xs)))) here ∙ ap (each_extended o) (members_more d.known before m) ∙ each_append o all (list_of (member_before d.known m NoTerm))))
          (parts_append (IsPart d) c.loop-member.parts.items c.in_ok-more.more.items (each_extended o all) (each_extended o (list_of (member_before d.known m NoTerm))) (c.loop-member.invariant.parts d is) (c.in_ok-more.ensures.parts d is));
      clear = λ b h.
          subst (AreClearParts b ns) (sym items)
          (clear_append b ns c.loop-member.parts.items c.in_ok-more.more.items (c.loop-member.invariant.clear b h) (c.in_ok-more.ensures.clear b (members_at b ns ms i c.member-item.result c.loop-member-test.true c.member-item.is h)));
    }

pub returns-clause-parts : goal.returns-clause-parts
returns-clause-parts c d is =
    let ms = c.args.members.now in
    subst (λ xs. AreParts d c.loop-member.parts.items (each_extended c.args.outer (list_of (terms_of d.known (members_of xs)))))
    (whole_front view_member ms c.loop-member.member-index c.loop-member-test.false)
    (c.loop-member.invariant.parts d is)

pub returns-clause-clear : goal.returns-clause-clear
returns-clause-clear c b h = c.loop-member.invariant.clear b h
