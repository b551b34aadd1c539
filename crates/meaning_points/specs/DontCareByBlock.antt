-- Don't-cares block by block, worked by hand.
-- module dont_care_by_block
-- d device 'GAL22V10';
-- a,b pin 2,3; x,y,z pin 23,22,21;
-- @DCSET
-- truth_table ([a,b] -> [y,z])
-- [1,1] -> [1,1];
-- @ONSET
-- truth_table ([a,b] -> y)
-- [0,1] -> 1;
-- @DCSET
-- truth_table ([a,b] -> x)
-- [1,0] -> 1;
-- equations
-- x = a & b;
-- end
use Rattle.std.specs.Prelude.{◌≡◌, [], ◌∷◌, codes}
use Rattle.meaning_points.specs.Prelude.{digits, ModuleTree, Equations, Design, design_of, gal22v10}
use Rattle.std.proofs.Common.{refl}
use Rattle.meaning_points.specs.ByHand.{points_of, may_be, at_each}
use Rattle.meaning_points.specs.Constructs.{assign, item, pin, device, pins, dc_set_for, row, table, dc_set_from, on_set_from, module_of}
use Rattle.meaning_points.specs.Trees.{number, name, set, one, both}

-- the module as a tree
abbrev source : ModuleTree
source =
    module_of (codes "dont_care_by_block")
    (device "d" "'GAL22V10'"
    ∷ pins (item "a" ∷ item "b" ∷ []) (pin 2 ∷ pin 3 ∷ []) []
    ∷ pins (item "x" ∷ item "y" ∷ item "z" ∷ []) (pin 23 ∷ pin 22 ∷ pin 21 ∷ []) []
    ∷ dc_set_for
    ∷ [])
    (table (set (one (name "a") ∷ one (name "b") ∷ [])) (set (one (name "y") ∷ one (name "z") ∷ []))
    (row (set (one (number 1) ∷ one (number 1) ∷ [])) (set (one (number 1) ∷ one (number 1) ∷ [])) ∷ [])
    ∷ on_set_from
    ∷ table (set (one (name "a") ∷ one (name "b") ∷ [])) (name "y")
    (row (set (one (number 0) ∷ one (number 1) ∷ [])) (number 1) ∷ [])
    ∷ dc_set_from
    ∷ table (set (one (name "a") ∷ one (name "b") ∷ [])) (name "x")
    (row (set (one (number 1) ∷ one (number 0) ∷ [])) (number 1) ∷ [])
    ∷ Equations (assign (name "x") (both (name "a") (name "b")) ∷ [])
    ∷ [])

-- its design
abbrev d : Design
d = design_of gal22v10 source

-- one of the two tables that assign y is not don't-care: 0 if no row matches
y_has : at_each (points_of (2 ∷ 3 ∷ []) [] []) (may_be d "y") ≡ ((0 ∷ []) ∷ (1 ∷ []) ∷ (0 ∷ []) ∷ (1 ∷ []) ∷ [])
unfolding digits
y_has = refl

-- the one table that assigns z is: either if its row does not match
z_has : at_each (points_of (2 ∷ 3 ∷ []) [] []) (may_be d "z") ≡ ((0 ∷ 1 ∷ []) ∷ (0 ∷ 1 ∷ []) ∷ (0 ∷ 1 ∷ []) ∷ (1 ∷ []) ∷ [])
unfolding digits
z_has = refl

-- an equation assigns x too: 0 if neither gives 1
x_has : at_each (points_of (2 ∷ 3 ∷ []) [] []) (may_be d "x") ≡ ((0 ∷ []) ∷ (0 ∷ []) ∷ (1 ∷ []) ∷ (1 ∷ []) ∷ [])
unfolding digits
x_has = refl
