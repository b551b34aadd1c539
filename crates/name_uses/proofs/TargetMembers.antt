-- The names of the members of a target, one member more.
use Rattle.std.proofs.Common.{◌≡◌, List, [], ◌∷◌, ◌++◌, sym, ap, ◌∙◌, append_assoc}
use Rattle.name_uses.proofs.Common.{append-nil, SetMember, members_of, UsedName, targets_in_member, targets_in_members}

abbrev pub listed_targets : List SetMember → List UsedName
listed_targets ms = targets_in_members (members_of ms)

pub targets_push : (ms : List SetMember) (m : SetMember) → listed_targets (ms ++ m ∷ []) ≡ listed_targets ms ++ targets_in_member m
targets_push [] m = append-nil (targets_in_member m)
targets_push (x ∷ ms) m = ap (λ us. targets_in_member x ++ us) (targets_push ms m) ∙ sym (append_assoc (targets_in_member x) (listed_targets ms) (targets_in_member m))
