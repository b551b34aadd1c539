-- One member more.
use Rattle.std.proofs.Common.{◌≡◌, ◌+◌, [], ◌∷◌, ◌++◌, map, take, sym, ap, ◌∙◌, append_assoc}
use Rattle.name_uses.proofs.Common.{map_push, take_more, view_member, targets_in_member, view_use}
use Rattle.name_uses.proofs.TargetMembers.{listed_targets, targets_push}
use Rattle.name_uses.proofs.targets.+targets.Goals as goal

pub put_member_targets-loop-member-preserved : goal.put_member_targets-loop-member-preserved
put_member_targets-loop-member-preserved t c =
    let l = c.loop-member in
    let es = c.args.members.now in
    let e = c.member-item.result in
    let so_far = map view_member (take l.member-index es) in
    let more : map view_member (take (l.member-index + 1) es) ≡ so_far ++ view_member e ∷ [] =
    ap (map view_member) (take_more es l.member-index e c.loop-member-test.true ∙ ap (λ x. take l.member-index es ++ x ∷ []) (sym c.member-item.is)) ∙ map_push view_member (take l.member-index es) e in
    c.in_ok-put_targets_in.ensures
    ∙ (ap (λ us. us ++ targets_in_member (view_member e)) l.invariant
    ∙ (append_assoc (map view_use c.args.uses.now.items) (listed_targets so_far) (targets_in_member (view_member e))
    ∙ ap (λ us. map view_use c.args.uses.now.items ++ us) (sym (ap listed_targets more ∙ targets_push so_far (view_member e)))))
