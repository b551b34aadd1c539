-- WHEN with groups, worked by hand.
-- module nested_guards
-- d device 'GAL22V10';
-- a,b,c pin 2,3,4; y,z pin 23,22;
-- equations
-- WHEN a THEN { y = b; WHEN b THEN z = c; ELSE { z = !c; } } ELSE { y = c; }
-- end
use Rattle.std.specs.Prelude.{◌≡◌, [], ◌∷◌, codes}
use Rattle.meaning_points.specs.Prelude.{digits, ModuleTree, Equations, Design, design_of, gal22v10}
use Rattle.std.proofs.Common.{refl}
use Rattle.meaning_points.specs.ByHand.{points_of, may_be, pin_may_be, at_each}
use Rattle.meaning_points.specs.Constructs.{assign, when_else, group, item, pin, device, pins, module_of}
use Rattle.meaning_points.specs.Trees.{name, complement}

-- the module as a tree
abbrev source : ModuleTree
source =
    module_of (codes "nested_guards")
    (device "d" "'GAL22V10'"
    ∷ pins (item "a" ∷ item "b" ∷ item "c" ∷ []) (pin 2 ∷ pin 3 ∷ pin 4 ∷ []) []
    ∷ pins (item "y" ∷ item "z" ∷ []) (pin 23 ∷ pin 22 ∷ []) []
    ∷ [])
    (Equations
    (when_else (name "a")
    (group
    (assign (name "y") (name "b")
    ∷ when_else (name "b") (assign (name "z") (name "c"))
    (group (assign (name "z") (complement (name "c")) ∷ []))
    ∷ []))
    (group (assign (name "y") (name "c") ∷ []))
    ∷ [])
    ∷ [])

-- its design
abbrev d : Design
d = design_of gal22v10 source

-- y is b if a holds, and c if it does not; a, b, c count up
y_has : at_each (points_of (2 ∷ 3 ∷ 4 ∷ []) [] []) (may_be d "y") ≡ ((0 ∷ []) ∷ (1 ∷ []) ∷ (0 ∷ []) ∷ (1 ∷ []) ∷ (0 ∷ []) ∷ (0 ∷ []) ∷ (1 ∷ []) ∷ (1 ∷ []) ∷ [])
unfolding digits
y_has = refl

-- z is c if a and b hold, !c if a alone does, and nothing is given to it elsewhere
z_has : at_each (points_of (2 ∷ 3 ∷ 4 ∷ []) [] []) (may_be d "z") ≡ ((0 ∷ []) ∷ (0 ∷ []) ∷ (0 ∷ []) ∷ (0 ∷ []) ∷ (1 ∷ []) ∷ (0 ∷ []) ∷ (0 ∷ []) ∷ (1 ∷ []) ∷ [])
unfolding digits
z_has = refl

-- the pin of y has the levels of y
y_pin : at_each (points_of (2 ∷ 3 ∷ 4 ∷ []) [] []) (pin_may_be d "y") ≡ ((0 ∷ []) ∷ (1 ∷ []) ∷ (0 ∷ []) ∷ (1 ∷ []) ∷ (0 ∷ []) ∷ (0 ∷ []) ∷ (1 ∷ []) ∷ (1 ∷ []) ∷ [])
unfolding digits
y_pin = refl
