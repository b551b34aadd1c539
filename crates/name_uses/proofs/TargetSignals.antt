-- What the names of a target give together is what the signals do that it names.
use Rattle.std.proofs.Common.{◌≡◌, ℕ, Option, Some, None, List, [], ◌++◌, sym, ap₂, ◌∙◌}
use Rattle.name_uses.proofs.Common.{flat_map, append-nil, flat_map-append, Named, signals_of, signals_of_member, signals_of_members, signals_of_name, signals_of_names, range_names, Tree, ANumber, ASpecial, AName, ASet, AParen, AUnary, ABinary, SetMember, OneMember, SpanMember, Members, NoMember, MoreMembers, UsedName, targets_in, targets_in_member, targets_in_members}
use Rattle.abel_tree.specs.declared.words.Word.{Word}

-- a name or a range that is without extension
abbrev pub plain : Word → Option Word → UsedName
plain first last = record { first = first; last = last; extension = None }

-- what signals give, and what a name that is used gives
module _ {A : Type 0} (ks : List Named) (each : List ℕ → List A) (none : each [] ≡ []) (joined : (xs ys : List ℕ) → each (xs ++ ys) ≡ each xs ++ each ys)
    (give : UsedName → List A) (one : (w : Word) → give (plain w None) ≡ each (signals_of_name ks w.text))
    (range : (v w : Word) → give (plain v (Some w)) ≡ each (signals_of_names ks (range_names v.text w.text))) where
  mutual
    pub targets_give : (t : Tree) → flat_map give (targets_in t) ≡ each (signals_of ks t)
    targets_give (ANumber n) = sym none
    targets_give (ASpecial letter place) = sym none
    targets_give (AName word None) = append-nil (give (plain word None)) ∙ one word
    targets_give (AName word (Some e)) = sym none
    targets_give (ASet place ms None) = members_give ms
    targets_give (ASet place ms (Some e)) = sym none
    targets_give (AParen place t) = targets_give t
    targets_give (AUnary sign place t) = sym none
    targets_give (ABinary sign place t u) = sym none

    members_give : (ms : Members) → flat_map give (targets_in_members ms) ≡ each (signals_of_members ks ms)
    members_give NoMember = sym none
    members_give (MoreMembers m ms) =
        flat_map-append give (targets_in_member m) (targets_in_members ms)
        ∙ (ap₂ (λ x y. x ++ y) (member_gives m) (members_give ms) ∙ sym (joined (signals_of_member ks m) (signals_of_members ks ms)))

    member_gives : (m : SetMember) → flat_map give (targets_in_member m) ≡ each (signals_of_member ks m)
    member_gives (OneMember t) = targets_give t
    member_gives (SpanMember first last) = append-nil (give (plain first (Some last))) ∙ range first last
