-- Where lists that were put into a pool are, and that it is as it was once they are let go.
use Rattle.std.proofs.Common.{◌≡◌, ℕ, ◌+◌, ◌≤◌, List, [], ◌∷◌, ◌++◌, length, take, refl, sym, ◌∙◌, ap, arith, slice_range}
use Rattle.fit_plans.proofs.Common.{length-append, Cube, Pool}
use Rattle.covers.proofs.ExpandedRows.{slice_kept}
use Rattle.covers.proofs.GrownPools.{grown_kept}
use Rattle.covers.proofs.CofactorLists.{appended}

take_front : (xs ys : List Cube) → take (length xs) (xs ++ ys) ≡ xs
take_front [] ys = refl
take_front (x ∷ xs) ys = ap (λ r. x ∷ r) (take_front xs ys)

pub take_grown : (old new more : List Cube) → new ≡ old ++ more → take (length old) new ≡ old
take_grown old new more is = rw is (take_front old more)

-- the first of two lists that were put after one another
pub first_slice : (old one two needed allowed : List Cube) (from to : ℕ) → one ≡ old ++ needed → two ≡ one ++ allowed → from ≡ length old → to ≡ length one
    → slice_range two from to ≡ needed
first_slice old one two needed allowed from to put then start end =
    slice_kept one two from to (take_grown one two allowed then) (omega (arith, end)) ∙ appended old one needed from to put start end

-- what is left when all past the old cubes is let go
pub let_go : (old one two three new needed allowed : List Cube) → one ≡ old ++ needed → two ≡ one ++ allowed → take (length two) three ≡ two
    → new ≡ take (length old) three → new ≡ old
let_go old one two three new needed allowed put then kept is =
    is ∙ grown_kept old two three (grown_kept old one two (take_grown old one needed put) (take_grown one two allowed then)) kept

same_pool : (p q : Pool) → p.cubes ≡ q.cubes → p.spare ≡ q.spare → p ≡ q
same_pool p q cubes spare =
    let first : p ≡ record { cubes = q.cubes; spare = p.spare } = ap (λ (c : List Cube). record { cubes = c; spare = p.spare }) cubes in
    first ∙ ap (λ (s : ℕ). record { cubes = q.cubes; spare = s }) spare

pub pool_back : (old one two three new : Pool) (needed allowed : List Cube)
    → one.cubes ≡ old.cubes ++ needed → one.spare + length needed ≡ old.spare
    → two.cubes ≡ one.cubes ++ allowed → two.spare + length allowed ≡ one.spare
    → take (length two.cubes) three.cubes ≡ two.cubes → three.spare + length three.cubes ≡ two.spare + length two.cubes
    → new.cubes ≡ take (length old.cubes) three.cubes → new.spare + length old.cubes ≡ three.spare + length three.cubes
    → new ≡ old
pool_back old one two three new needed allowed put put_spare then then_spare kept kept_spare cut cut_spare =
    let first : length one.cubes ≡ length old.cubes + length needed = ap length put ∙ length-append old.cubes needed in
    let second : length two.cubes ≡ length one.cubes + length allowed = ap length then ∙ length-append one.cubes allowed in
    same_pool new old (let_go old.cubes one.cubes two.cubes three.cubes new.cubes needed allowed put then kept cut)
    (omega (arith, first, second, put_spare, then_spare, kept_spare, cut_spare))
