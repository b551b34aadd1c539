-- The signals of the names that an expression uses are those that it names.
use Rattle.std.proofs.Common.{◌≡◌, ℕ, Option, List, ◌++◌, refl, sym, ap₂, ◌∙◌}
use Rattle.placer.proofs.Common.{flat_map, flat_map-append, Extension, Named, Tree, ANumber, ASpecial, AName, ASet, AParen, AUnary, ABinary, SetMember, OneMember, SpanMember, Members, NoMember, MoreMembers, Use, uses, member_uses, one_member_uses, innermost, signals_in, signals_used, signals_at, UsedName, names_used, members_used, member_used}

module _ (ks : List Named) where
  abbrev at : List UsedName → List ℕ
  at us = flat_map (signals_at ks) us

  abbrev used : List Use → List ℕ
  used us = flat_map (signals_used ks) us

  both : (us vs : List UsedName) (ws xs : List Use) → at us ≡ used ws → at vs ≡ used xs → at (us ++ vs) ≡ used (ws ++ xs)
  both us vs ws xs e f = flat_map-append (signals_at ks) us vs ∙ (ap₂ (λ a b. a ++ b) e f ∙ sym (flat_map-append (signals_used ks) ws xs))

  mutual
    pub names_signals : (o : Option Extension) (t : Tree) → flat_map (signals_at ks) (names_used o t) ≡ signals_in ks t
    names_signals o (ANumber n) = refl
    names_signals o (ASpecial letter p) = refl
    names_signals o (AName word e) = refl
    names_signals o (ASet p ms e) = members_signals (innermost e o) ms
    names_signals o (AParen p t) = names_signals o t
    names_signals o (AUnary sign p t) = names_signals o t
    names_signals o (ABinary sign p t u) = both (names_used o t) (names_used o u) (uses t) (uses u) (names_signals o t) (names_signals o u)

    members_signals : (o : Option Extension) (ms : Members) → at (members_used o ms) ≡ used (member_uses ms)
    members_signals o NoMember = refl
    members_signals o (MoreMembers m ms) = both (member_used o m) (members_used o ms) (one_member_uses m) (member_uses ms) (member_signals o m) (members_signals o ms)

    member_signals : (o : Option Extension) (m : SetMember) → at (member_used o m) ≡ used (one_member_uses m)
    member_signals o (OneMember t) = names_signals o t
    member_signals o (SpanMember first last) = refl
