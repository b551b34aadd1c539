-- Expansion and irredundance together give a prime and irredundant list.
use Rattle.std.proofs.Common.{◌≡◌, ℕ, Bool, true, List, get_or, All, Contains}
use Rattle.covers.proofs.Common.{All-contains, list_any_at, Any-from_list_any, Cube, has_point, covers, CoversList, IsPrime, IsIrredundant, IsPrimeIrredundant, IsExpanded}

-- rows that are among others have only their points
covers_among : (old new : List Cube) (p : List Bool) → All (Contains old) new → covers new p ≡ true → covers old p ≡ true
covers_among old new p among is =
    let found = Any-from_list_any (λ c. has_point c p) new is in
    let there = among found.0 found.1 found.2 in
    let same : get_or new found.0 found.1 ≡ found.1 = found.3 in
    let old_has : Contains old found.1 = rw same at there in
    list_any_at (λ c. has_point c p) old old_has.0 found.1 old_has.1 (rw old_has.2 found.4)

pub minimised : (needed allowed cubes first rows whole : List Cube) (vars : ℕ) → whole ≡ rows → IsExpanded allowed cubes vars first → All (Contains first) rows
    → CoversList rows needed vars → IsIrredundant needed vars rows → IsPrimeIrredundant needed allowed vars whole
minimised needed allowed cubes first rows whole vars is expanded among all never = rw is (record {
  at_needed = all;
  at_allowed = λ p len has. expanded.at_allowed p len (covers_among first rows p among has);
  prime = λ k d lt. All-contains (IsPrime allowed vars) first (get_or rows k d) expanded.prime (among k d lt);
  irredundant = never;
})
