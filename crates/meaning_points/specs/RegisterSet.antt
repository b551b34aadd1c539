-- A set of registers that counts by three and wraps, worked by hand.
-- module register_set
-- d device 'GAL22V10';
-- clk,en pin 1,2; q2,q1,q0 pin 23,22,21 istype 'reg,buffer'; S = [q2..q0];
-- equations
-- WHEN en THEN S := S + 3; ELSE S := S;
-- end
use Rattle.std.specs.Prelude.{◌≡◌, [], ◌∷◌, codes}
use Rattle.meaning_points.specs.Prelude.{digits, ModuleTree, Equations, Design, design_of, gal22v10}
use Rattle.std.proofs.Common.{refl}
use Rattle.meaning_points.specs.ByHand.{point_at, points_of, next_may_be, number_of, at_each}
use Rattle.meaning_points.specs.Constructs.{clocked, when_else, item, pin, device, pins, constants, module_of}
use Rattle.meaning_points.specs.Trees.{word, number, name, set, span, plus}

-- the module as a tree
abbrev source : ModuleTree
source =
    module_of (codes "register_set")
    (device "d" "'GAL22V10'"
    ∷ pins (item "clk" ∷ item "en" ∷ []) (pin 1 ∷ pin 2 ∷ []) []
    ∷ pins (item "q2" ∷ item "q1" ∷ item "q0" ∷ []) (pin 23 ∷ pin 22 ∷ pin 21 ∷ []) (word "'reg,buffer'" ∷ [])
    ∷ constants (word "S" ∷ []) (set (span "q2" "q0" ∷ []) ∷ [])
    ∷ [])
    (Equations
    (when_else (name "en")
    (clocked (name "S") (plus (name "S") (number 3)))
    (clocked (name "S") (name "S"))
    ∷ [])
    ∷ [])

-- its design
abbrev d : Design
d = design_of gal22v10 source

-- from 5, which is 101, en leads to 8 - 8 = 0; without it 5 stays: q2, then q1, then q0
from_5 : at_each (points_of (2 ∷ []) (0 ∷ 2 ∷ []) []) (next_may_be d "q2") ≡ ((1 ∷ []) ∷ (0 ∷ []) ∷ [])
unfolding digits
from_5 = refl

-- the middle bit
from_5_q1 : at_each (points_of (2 ∷ []) (0 ∷ 2 ∷ []) []) (next_may_be d "q1") ≡ ((0 ∷ []) ∷ (0 ∷ []) ∷ [])
unfolding digits
from_5_q1 = refl

-- the lowest bit
from_5_q0 : at_each (points_of (2 ∷ []) (0 ∷ 2 ∷ []) []) (next_may_be d "q0") ≡ ((1 ∷ []) ∷ (0 ∷ []) ∷ [])
unfolding digits
from_5_q0 = refl

-- from 6, which is 110, en leads to 9 - 8 = 1
from_6_q2 : at_each (points_of (2 ∷ []) (0 ∷ 1 ∷ []) []) (next_may_be d "q2") ≡ ((1 ∷ []) ∷ (0 ∷ []) ∷ [])
unfolding digits
from_6_q2 = refl

-- the middle bit
from_6_q1 : at_each (points_of (2 ∷ []) (0 ∷ 1 ∷ []) []) (next_may_be d "q1") ≡ ((1 ∷ []) ∷ (0 ∷ []) ∷ [])
unfolding digits
from_6_q1 = refl

-- the lowest bit
from_6_q0 : at_each (points_of (2 ∷ []) (0 ∷ 1 ∷ []) []) (next_may_be d "q0") ≡ ((0 ∷ []) ∷ (1 ∷ []) ∷ [])
unfolding digits
from_6_q0 = refl

-- the set reads 5 where q2 and q0 are 1
reads : number_of d.context (name "S") (point_at [] (0 ∷ 2 ∷ []) []) ≡ 5
unfolding digits
reads = refl
