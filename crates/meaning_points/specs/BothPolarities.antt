-- Signals that are assigned in both polarities, worked by hand.
-- module both_polarities
-- d device 'GAL22V10';
-- clk,a,b,c pin 1,2,3,4; q,r pin 23,22 istype 'reg,buffer'; x,w pin 21,20; y,z pin 19,18 istype 'dc';
-- equations
-- x = a; !x = b & c; !x ?= b; !y = b; r.D = a; !r.D = b;
-- truth_table (a -> y)
-- 1 -> 1;
-- state_diagram q
-- state 0: w = a; !w = b; z = a; !z = b; goto 1;
-- end
use Rattle.std.specs.Prelude.{◌≡◌, [], ◌∷◌, codes}
use Rattle.meaning_points.specs.Prelude.{digits, ModuleTree, Equations, Design, design_of, gal22v10}
use Rattle.std.proofs.Common.{refl}
use Rattle.abel_tree.specs.declared.words.Extension.TheVariants as extension
use Rattle.meaning_points.specs.ByHand.{points_of, may_be, next_may_be, at_each}
use Rattle.meaning_points.specs.Constructs.{assign, not_assign, not_assign_any, goto, item, pin, device, pins, row, table, state, diagram, module_of}
use Rattle.meaning_points.specs.Trees.{word, number, name, dotted, both}

-- the module as a tree
abbrev source : ModuleTree
source =
    module_of (codes "both_polarities")
    (device "d" "'GAL22V10'"
    ∷ pins (item "clk" ∷ item "a" ∷ item "b" ∷ item "c" ∷ []) (pin 1 ∷ pin 2 ∷ pin 3 ∷ pin 4 ∷ []) []
    ∷ pins (item "q" ∷ item "r" ∷ []) (pin 23 ∷ pin 22 ∷ []) (word "'reg,buffer'" ∷ [])
    ∷ pins (item "x" ∷ item "w" ∷ []) (pin 21 ∷ pin 20 ∷ []) []
    ∷ pins (item "y" ∷ item "z" ∷ []) (pin 19 ∷ pin 18 ∷ []) (word "'dc'" ∷ [])
    ∷ [])
    (Equations
    (assign (name "x") (name "a")
    ∷ not_assign (name "x") (both (name "b") (name "c"))
    ∷ not_assign_any (name "x") (name "b")
    ∷ not_assign (name "y") (name "b")
    ∷ assign (dotted "r" extension.D) (name "a")
    ∷ not_assign (dotted "r" extension.D) (name "b")
    ∷ [])
    ∷ table (name "a") (name "y") (row (number 1) (number 1) ∷ [])
    ∷ diagram (name "q")
    (state (number 0)
    (assign (name "w") (name "a")
    ∷ not_assign (name "w") (name "b")
    ∷ assign (name "z") (name "a")
    ∷ not_assign (name "z") (name "b")
    ∷ [])
    (goto (number 1) ∷ [])
    ∷ [])
    ∷ [])

-- its design
abbrev d : Design
d = design_of gal22v10 source

-- 1 if a is, and if the complement is 0; either where b alone frees the complement
x_has : at_each (points_of (2 ∷ 3 ∷ 4 ∷ []) [] []) (may_be d "x")
    ≡ ((1 ∷ []) ∷ (1 ∷ []) ∷ (0 ∷ 1 ∷ []) ∷ (0 ∷ []) ∷ (1 ∷ []) ∷ (1 ∷ []) ∷ (1 ∷ []) ∷ (1 ∷ []) ∷ [])
unfolding digits
x_has = refl

-- beside the don't-care table is an equation: nothing is free if no row matches
y_has : at_each (points_of (2 ∷ 3 ∷ []) [] []) (may_be d "y") ≡ ((1 ∷ []) ∷ (0 ∷ []) ∷ (1 ∷ []) ∷ (1 ∷ []) ∷ [])
unfolding digits
y_has = refl

-- the raw input of a register
r_next : at_each (points_of (2 ∷ 3 ∷ []) [] []) (next_may_be d "r") ≡ ((1 ∷ []) ∷ (0 ∷ []) ∷ (1 ∷ []) ∷ (1 ∷ []) ∷ [])
unfolding digits
r_next = refl

-- a state with both, if it is the present one
w_in_0 : at_each (points_of (2 ∷ 3 ∷ []) [] []) (may_be d "w") ≡ ((1 ∷ []) ∷ (0 ∷ []) ∷ (1 ∷ []) ∷ (1 ∷ []) ∷ [])
unfolding digits
w_in_0 = refl

-- for a signal that is don't-care the same
z_in_0 : at_each (points_of (2 ∷ 3 ∷ []) [] []) (may_be d "z") ≡ ((1 ∷ []) ∷ (0 ∷ []) ∷ (1 ∷ []) ∷ (1 ∷ []) ∷ [])
unfolding digits
z_in_0 = refl

-- state 1 isn't listed: the complement is 0
w_in_1 : at_each (points_of (2 ∷ 3 ∷ []) (0 ∷ []) []) (may_be d "w") ≡ ((1 ∷ []) ∷ (1 ∷ []) ∷ (1 ∷ []) ∷ (1 ∷ []) ∷ [])
unfolding digits
w_in_1 = refl

-- or it may be anything
z_in_1 : at_each (points_of (2 ∷ 3 ∷ []) (0 ∷ []) []) (may_be d "z")
    ≡ ((0 ∷ 1 ∷ []) ∷ (0 ∷ 1 ∷ []) ∷ (0 ∷ 1 ∷ []) ∷ (0 ∷ 1 ∷ []) ∷ [])
unfolding digits
z_in_1 = refl
