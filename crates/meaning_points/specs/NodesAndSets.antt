-- A node, and sets that meet, worked by hand.
-- module nodes_and_sets
-- d device 'GAL22V10';
-- a,b,c pin 2,3,4; y,x1,x0,z1,z0 pin 23,22,21,20,19; n node;
-- equations
-- n = a & b; y = n # c; [x1,x0] = [a,b] & c; [z1,z0] = 6;
-- end
use Rattle.std.specs.Prelude.{◌≡◌, [], ◌∷◌, codes}
use Rattle.meaning_points.specs.Prelude.{digits, ModuleTree, Equations, Design, design_of, gal22v10}
use Rattle.std.proofs.Common.{refl}
use Rattle.meaning_points.specs.ByHand.{points_of, may_be, at_each}
use Rattle.meaning_points.specs.Constructs.{assign, item, pin, pins_to, device, pins, nodes, module_of}
use Rattle.meaning_points.specs.Trees.{number, name, set, one, both, either}

-- the module as a tree
abbrev source : ModuleTree
source =
    module_of (codes "nodes_and_sets")
    (device "d" "'GAL22V10'"
    ∷ pins (item "a" ∷ item "b" ∷ item "c" ∷ []) (pin 2 ∷ pin 3 ∷ pin 4 ∷ []) []
    ∷ pins (item "y" ∷ item "x1" ∷ item "x0" ∷ item "z1" ∷ item "z0" ∷ []) (pins_to 23 19 ∷ []) []
    ∷ nodes (item "n" ∷ []) []
    ∷ [])
    (Equations
    (assign (name "n") (both (name "a") (name "b"))
    ∷ assign (name "y") (either (name "n") (name "c"))
    ∷ assign (set (one (name "x1") ∷ one (name "x0") ∷ []))
    (both (set (one (name "a") ∷ one (name "b") ∷ [])) (name "c"))
    ∷ assign (set (one (name "z1") ∷ one (name "z0") ∷ [])) (number 6)
    ∷ [])
    ∷ [])

-- its design
abbrev d : Design
d = design_of gal22v10 source

-- what the node may be
n_has : at_each (points_of (2 ∷ 3 ∷ []) [] []) (may_be d "n") ≡ ((0 ∷ []) ∷ (0 ∷ []) ∷ (0 ∷ []) ∷ (1 ∷ []) ∷ [])
unfolding digits
n_has = refl

-- y reads the node's value at the point, here 0, and c
y_reads_0 : at_each (points_of (2 ∷ 3 ∷ 4 ∷ []) [] []) (may_be d "y") ≡ ((0 ∷ []) ∷ (1 ∷ []) ∷ (0 ∷ []) ∷ (1 ∷ []) ∷ (0 ∷ []) ∷ (1 ∷ []) ∷ (0 ∷ []) ∷ (1 ∷ []) ∷ [])
unfolding digits
y_reads_0 = refl

-- here 1
y_reads_1 : at_each (points_of (4 ∷ []) [] (0 ∷ [])) (may_be d "y") ≡ ((1 ∷ []) ∷ (1 ∷ []) ∷ [])
unfolding digits
y_reads_1 = refl

-- one bit that meets a set is spread: x1 is a & c
x1_has : at_each (points_of (2 ∷ 4 ∷ []) [] []) (may_be d "x1") ≡ ((0 ∷ []) ∷ (0 ∷ []) ∷ (0 ∷ []) ∷ (1 ∷ []) ∷ [])
unfolding digits
x1_has = refl

-- x0 is b & c
x0_has : at_each (points_of (3 ∷ 4 ∷ []) [] []) (may_be d "x0") ≡ ((0 ∷ []) ∷ (0 ∷ []) ∷ (0 ∷ []) ∷ (1 ∷ []) ∷ [])
unfolding digits
x0_has = refl

-- 6 is cut to two bits, 10
z1_has : at_each (points_of (2 ∷ []) [] []) (may_be d "z1") ≡ ((1 ∷ []) ∷ (1 ∷ []) ∷ [])
unfolding digits
z1_has = refl

-- its lower bit
z0_has : at_each (points_of (2 ∷ []) [] []) (may_be d "z0") ≡ ((0 ∷ []) ∷ (0 ∷ []) ∷ [])
unfolding digits
z0_has = refl
