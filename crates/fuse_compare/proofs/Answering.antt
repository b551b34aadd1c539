-- What the search answers, from its two clauses.
use Rattle.std.proofs.Common.{◌≡◌, Option, None, Some, IfSome, refl}
use Rattle.fuse_compare.proofs.Common.{Logic, AreAlike, FindsDifference, IsDifference, Difference}

pub finds : (a b : Logic) (r : Option Difference) → (r ≡ None → AreAlike a b) → IfSome r (IsDifference a b) → FindsDifference a b r
finds a b None alike differ = alike refl
finds a b (Some d) alike differ = differ

-- what follows for the difference that there may be
pub if_some : (r : Option Difference) (P Q : Difference → Type 0) → ((d : Difference) → P d → Q d) → IfSome r P → IfSome r Q
if_some None P Q follows is = tt
if_some (Some d) P Q follows is = follows d is
