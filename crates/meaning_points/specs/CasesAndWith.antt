-- A state diagram with CASE and WITH, worked by hand.
-- module cases_and_with
-- d device 'GAL22V10';
-- clk,a,b pin 1,2,3; q1,q0 pin 23,22 istype 'reg,buffer'; y pin 21;
-- state_diagram [q1,q0]
-- state 0: case a : 1; b : 2 with y = a; endwith; endcase
-- state 1: if a then 3 with {y = b;} else 0;
-- state 2: y = a; goto 0;
-- end
use Rattle.std.specs.Prelude.{◌≡◌, [], ◌∷◌, codes}
use Rattle.meaning_points.specs.Prelude.{digits, ModuleTree, Design, design_of, gal22v10}
use Rattle.std.proofs.Common.{refl}
use Rattle.meaning_points.specs.ByHand.{points_of, may_be, next_may_be, at_each}
use Rattle.meaning_points.specs.Constructs.{assign, goto, goto_with, if_else, choice, case_of, item, pin, device, pins, state, diagram, module_of}
use Rattle.meaning_points.specs.Trees.{word, number, name, set, one}

-- the module as a tree
abbrev source : ModuleTree
source =
    module_of (codes "cases_and_with")
    (device "d" "'GAL22V10'"
    ∷ pins (item "clk" ∷ item "a" ∷ item "b" ∷ []) (pin 1 ∷ pin 2 ∷ pin 3 ∷ []) []
    ∷ pins (item "q1" ∷ item "q0" ∷ []) (pin 23 ∷ pin 22 ∷ []) (word "'reg,buffer'" ∷ [])
    ∷ pins (item "y" ∷ []) (pin 21 ∷ []) []
    ∷ [])
    (diagram (set (one (name "q1") ∷ one (name "q0") ∷ []))
    (state (number 0) []
    (case_of
    (choice (name "a") (goto (number 1))
    ∷ choice (name "b") (goto_with (number 2) (assign (name "y") (name "a") ∷ []))
    ∷ [])
    ∷ [])
    ∷ state (number 1) []
    (if_else (name "a") (goto_with (number 3) (assign (name "y") (name "b") ∷ [])) (goto (number 0)) ∷ [])
    ∷ state (number 2) (assign (name "y") (name "a") ∷ []) (goto (number 0) ∷ [])
    ∷ [])
    ∷ [])

-- its design
abbrev d : Design
d = design_of gal22v10 source

-- in state 0 each arm whose condition is 1 is taken, and the goals are ORed: a and b lead to 3
q1_from_0 : at_each (points_of (2 ∷ 3 ∷ []) [] []) (next_may_be d "q1") ≡ ((0 ∷ []) ∷ (1 ∷ []) ∷ (0 ∷ []) ∷ (1 ∷ []) ∷ [])
unfolding digits
q1_from_0 = refl

-- the lower bit of these goals
q0_from_0 : at_each (points_of (2 ∷ 3 ∷ []) [] []) (next_may_be d "q0") ≡ ((0 ∷ []) ∷ (0 ∷ []) ∷ (1 ∷ []) ∷ (1 ∷ []) ∷ [])
unfolding digits
q0_from_0 = refl

-- the statement after WITH counts where b is taken
y_in_0 : at_each (points_of (2 ∷ 3 ∷ []) [] []) (may_be d "y") ≡ ((0 ∷ []) ∷ (0 ∷ []) ∷ (0 ∷ []) ∷ (1 ∷ []) ∷ [])
unfolding digits
y_in_0 = refl

-- in state 1 a leads to 3
q1_from_1 : at_each (points_of (2 ∷ 3 ∷ []) (1 ∷ []) []) (next_may_be d "q1") ≡ ((0 ∷ []) ∷ (0 ∷ []) ∷ (1 ∷ []) ∷ (1 ∷ []) ∷ [])
unfolding digits
q1_from_1 = refl

-- the lower bit
q0_from_1 : at_each (points_of (2 ∷ 3 ∷ []) (1 ∷ []) []) (next_may_be d "q0") ≡ ((0 ∷ []) ∷ (0 ∷ []) ∷ (1 ∷ []) ∷ (1 ∷ []) ∷ [])
unfolding digits
q0_from_1 = refl

-- b, if a is taken
y_in_1 : at_each (points_of (2 ∷ 3 ∷ []) (1 ∷ []) []) (may_be d "y") ≡ ((0 ∷ []) ∷ (0 ∷ []) ∷ (0 ∷ []) ∷ (1 ∷ []) ∷ [])
unfolding digits
y_in_1 = refl

-- a statement of the state counts whatever is taken
y_in_2 : at_each (points_of (2 ∷ 3 ∷ []) (0 ∷ []) []) (may_be d "y") ≡ ((0 ∷ []) ∷ (0 ∷ []) ∷ (1 ∷ []) ∷ (1 ∷ []) ∷ [])
unfolding digits
y_in_2 = refl

-- state 3 is not listed: all zeros
q1_from_3 : at_each (points_of (2 ∷ 3 ∷ []) (0 ∷ 1 ∷ []) []) (next_may_be d "q1") ≡ ((0 ∷ []) ∷ (0 ∷ []) ∷ (0 ∷ []) ∷ (0 ∷ []) ∷ [])
unfolding digits
q1_from_3 = refl

-- and nothing else
y_in_3 : at_each (points_of (2 ∷ 3 ∷ []) (0 ∷ 1 ∷ []) []) (may_be d "y") ≡ ((0 ∷ []) ∷ (0 ∷ []) ∷ (0 ∷ []) ∷ (0 ∷ []) ∷ [])
unfolding digits
y_in_3 = refl
