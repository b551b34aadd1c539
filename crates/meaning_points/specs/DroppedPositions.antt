-- Positions that are X drop out of a relation, worked by hand.
-- module dropped_positions
-- d device 'GAL22V10';
-- a,b,c pin 2,3,4; X = .X.; A = [a,b,c,X,X]; N = [X,X];
-- end
use Rattle.std.specs.Prelude.{◌≡◌, [], ◌∷◌, codes}
use Rattle.meaning_points.specs.Prelude.{digits, ModuleTree, Design, design_of, gal22v10}
use Rattle.std.proofs.Common.{refl}
use Rattle.meaning_points.specs.ByHand.{point_at, points_of, number_of, at_each}
use Rattle.meaning_points.specs.Constructs.{item, pin, device, pins, constants, module_of}
use Rattle.meaning_points.specs.Trees.{word, number, unknown, name, set, one, equal, unequal, less, at_most, at_least}

-- the module as a tree
abbrev source : ModuleTree
source =
    module_of (codes "dropped_positions")
    (device "d" "'GAL22V10'"
    ∷ pins (item "a" ∷ item "b" ∷ item "c" ∷ []) (pin 2 ∷ pin 3 ∷ pin 4 ∷ []) []
    ∷ constants (word "X" ∷ word "A" ∷ word "N" ∷ [])
    (unknown
    ∷ set (one (name "a") ∷ one (name "b") ∷ one (name "c") ∷ one (name "X") ∷ one (name "X") ∷ [])
    ∷ set (one (name "X") ∷ one (name "X") ∷ [])
    ∷ [])
    ∷ [])
    []

-- its design
abbrev d : Design
d = design_of gal22v10 source

-- A >= 15 compares a, b, c with 01111 without its two lowest bits, which is 3
at_least_15 : at_each (points_of (2 ∷ 3 ∷ 4 ∷ []) [] []) (number_of d.context (at_least (name "A") (number 15))) ≡ (0 ∷ 0 ∷ 0 ∷ 1 ∷ 1 ∷ 1 ∷ 1 ∷ 1 ∷ [])
unfolding digits
at_least_15 = refl

-- A < 8 compares them with 2
less_than_8 : at_each (points_of (2 ∷ 3 ∷ 4 ∷ []) [] []) (number_of d.context (less (name "A") (number 8))) ≡ (1 ∷ 1 ∷ 0 ∷ 0 ∷ 0 ∷ 0 ∷ 0 ∷ 0 ∷ [])
unfolding digits
less_than_8 = refl

-- A == 21 compares them with 5, and the bits of 21 at X count for nothing
equals_21 : at_each (points_of (2 ∷ 3 ∷ 4 ∷ []) [] []) (number_of d.context (equal (name "A") (number 21))) ≡ (0 ∷ 0 ∷ 0 ∷ 0 ∷ 0 ∷ 1 ∷ 0 ∷ 0 ∷ [])
unfolding digits
equals_21 = refl

-- a position that is X on either side is dropped: of [a,X] and [X,b] none is left
both_sides : at_each (points_of (2 ∷ 3 ∷ []) [] []) (number_of d.context (equal (set (one (name "a") ∷ one (name "X") ∷ [])) (set (one (name "X") ∷ one (name "b") ∷ [])))) ≡ (1 ∷ 1 ∷ 1 ∷ 1 ∷ [])
unfolding digits
both_sides = refl

-- with no position left ==, <= and >= hold
none_left : number_of d.context (equal (name "N") (number 3)) (point_at [] [] []) ≡ 1
unfolding digits
none_left = refl

-- so does <=
none_left_at_most : number_of d.context (at_most (name "N") (number 0)) (point_at [] [] []) ≡ 1
unfolding digits
none_left_at_most = refl

-- and the others do not
none_left_less : number_of d.context (less (name "N") (number 3)) (point_at [] [] []) ≡ 0
unfolding digits
none_left_less = refl

-- nor does !=
none_left_unequal : number_of d.context (unequal (name "N") (number 3)) (point_at [] [] []) ≡ 0
unfolding digits
none_left_unequal = refl
