-- The names of a range by whether its ends agree.
use Rattle.std.proofs.Common.{◌≡◌, ℕ, Bool, true, false, List, [], Option, Some, None, if◌then◌else◌, refl}
use Rattle.name_uses.proofs.Common.{ends_agree, names_between, range_names, names_if_agree}

some_names : (b : Bool) (names found : List (List ℕ)) → Some found ≡ (if b then Some names else None) → found ≡ (if b then names else [])
some_names true names found e = cc
some_names false names found e = absurd cc

no_names : (b : Bool) (names : List (List ℕ)) → ◌≡◌ {A = Option (List (List ℕ))} None (if b then Some names else None) → [] ≡ (if b then names else [])
no_names true names e = absurd cc
no_names false names e = refl

pub listed : (first last : List ℕ) (found : List (List ℕ)) → Some found ≡ names_if_agree first last → found ≡ range_names first last
listed first last found e = some_names (ends_agree first last) (names_between first last) found e

pub none_listed : (first last : List ℕ) → None ≡ names_if_agree first last → [] ≡ range_names first last
none_listed first last e = no_names (ends_agree first last) (names_between first last) e
