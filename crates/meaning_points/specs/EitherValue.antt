-- Don't-care assignments, worked by hand.
-- module either_value
-- d device 'GAL22V10';
-- a,b pin 2,3; y,z pin 23,22;
-- equations
-- y = a & b; y ?= !a & b; !z = a; !z ?= b;
-- end
use Rattle.std.specs.Prelude.{◌≡◌, [], ◌∷◌, codes}
use Rattle.meaning_points.specs.Prelude.{digits, ModuleTree, Equations, Design, design_of, gal22v10}
use Rattle.std.proofs.Common.{refl}
use Rattle.meaning_points.specs.ByHand.{points_of, may_be, at_each}
use Rattle.meaning_points.specs.Constructs.{assign, not_assign, assign_any, not_assign_any, item, pin, device, pins, module_of}
use Rattle.meaning_points.specs.Trees.{name, complement, both}

-- the module as a tree
abbrev source : ModuleTree
source =
    module_of (codes "either_value")
    (device "d" "'GAL22V10'"
    ∷ pins (item "a" ∷ item "b" ∷ []) (pin 2 ∷ pin 3 ∷ []) []
    ∷ pins (item "y" ∷ item "z" ∷ []) (pin 23 ∷ pin 22 ∷ []) []
    ∷ [])
    (Equations
    (assign (name "y") (both (name "a") (name "b"))
    ∷ assign_any (name "y") (both (complement (name "a")) (name "b"))
    ∷ not_assign (name "z") (name "a")
    ∷ not_assign_any (name "z") (name "b")
    ∷ [])
    ∷ [])

-- its design
abbrev d : Design
d = design_of gal22v10 source

-- 1 where = gives it, either where ?= does, else 0
y_has : at_each (points_of (2 ∷ 3 ∷ []) [] []) (may_be d "y") ≡ ((0 ∷ []) ∷ (0 ∷ 1 ∷ []) ∷ (0 ∷ []) ∷ (1 ∷ []) ∷ [])
unfolding digits
y_has = refl

-- said of the complement: z is 0 if a holds, either where b alone does, else 1
z_has : at_each (points_of (2 ∷ 3 ∷ []) [] []) (may_be d "z") ≡ ((1 ∷ []) ∷ (0 ∷ 1 ∷ []) ∷ (0 ∷ []) ∷ (0 ∷ []) ∷ [])
unfolding digits
z_has = refl
