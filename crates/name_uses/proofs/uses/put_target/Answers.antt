-- The members of a target, under an extension in place of its own.
use Rattle.std.proofs.Common.{◌≡◌, ◌++◌, OnOk, map, sym, ap, ◌∙◌, subst}
use Rattle.name_uses.proofs.Common.{flat_map, without_extension, view, view_member, member_used, names_used, view_use}
use Rattle.name_uses.proofs.Lists.{target_uses}
use Rattle.name_uses.proofs.uses.put_target.Goals as goal

pub returns-in-Set : goal.returns-in-Set
returns-in-Set c =
    subst (λ us. OnOk c.put_members.result (map view_use c.put_members.new.uses.items ≡ map view_use c.args.uses.now.items ++ us))
    (ap (λ xs. flat_map (member_used c.args.extension) (map view_member xs)) c.as_slice.ensures
    ∙ sym (ap (λ y. names_used c.args.extension (without_extension (view y))) c.in-Set.is ∙ target_uses c.args.extension c.in-Set.extension c.in-Set.place c.in-Set.members))
    c.put_members.ensures
