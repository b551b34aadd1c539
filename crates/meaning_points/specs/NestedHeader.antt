-- A table with sets within sets and X in its rows, worked by hand.
-- module nested_header
-- d device 'GAL22V10';
-- a,b,c,e pin 2,3,4,5; y,z pin 23,22; X = .X.;
-- truth_table ([a,[b,c]] -> [y,z])
-- [1,2] -> 3;
-- [0,[X,1]] -> [X,0];
-- [X,0] -> [0,1];
-- end
use Rattle.std.specs.Prelude.{◌≡◌, [], ◌∷◌, codes}
use Rattle.meaning_points.specs.Prelude.{digits, ModuleTree, Design, design_of, gal22v10}
use Rattle.std.proofs.Common.{refl}
use Rattle.meaning_points.specs.ByHand.{points_of, may_be, at_each}
use Rattle.meaning_points.specs.Constructs.{item, pin, pins_to, device, pins, constants, row, table, module_of}
use Rattle.meaning_points.specs.Trees.{word, number, unknown, name, set, one}

-- the module as a tree
abbrev source : ModuleTree
source =
    module_of (codes "nested_header")
    (device "d" "'GAL22V10'"
    ∷ pins (item "a" ∷ item "b" ∷ item "c" ∷ item "e" ∷ []) (pins_to 2 5 ∷ []) []
    ∷ pins (item "y" ∷ item "z" ∷ []) (pin 23 ∷ pin 22 ∷ []) []
    ∷ constants (word "X" ∷ []) (unknown ∷ [])
    ∷ [])
    (table
    (set (one (name "a") ∷ one (set (one (name "b") ∷ one (name "c") ∷ [])) ∷ []))
    (set (one (name "y") ∷ one (name "z") ∷ []))
    (row (set (one (number 1) ∷ one (number 2) ∷ [])) (number 3)
    ∷ row (set (one (number 0) ∷ one (set (one (name "X") ∷ one (number 1) ∷ [])) ∷ []))
    (set (one (name "X") ∷ one (number 0) ∷ []))
    ∷ row (set (one (name "X") ∷ one (number 0) ∷ [])) (set (one (number 0) ∷ one (number 1) ∷ []))
    ∷ [])
    ∷ [])

-- its design
abbrev d : Design
d = design_of gal22v10 source

-- 1 in the row 1 10, either in the rows 0 -1, else 0; a, b, c count up
y_has : at_each (points_of (2 ∷ 3 ∷ 4 ∷ []) [] []) (may_be d "y") ≡ ((0 ∷ []) ∷ (0 ∷ 1 ∷ []) ∷ (0 ∷ []) ∷ (0 ∷ 1 ∷ []) ∷ (0 ∷ []) ∷ (0 ∷ []) ∷ (1 ∷ []) ∷ (0 ∷ []) ∷ [])
unfolding digits
y_has = refl

-- 1 in the rows 1 10 and - 00, else 0
z_has : at_each (points_of (2 ∷ 3 ∷ 4 ∷ []) [] []) (may_be d "z") ≡ ((1 ∷ []) ∷ (0 ∷ []) ∷ (0 ∷ []) ∷ (0 ∷ []) ∷ (1 ∷ []) ∷ (0 ∷ []) ∷ (1 ∷ []) ∷ (0 ∷ []) ∷ [])
unfolding digits
z_has = refl
