-- The raw input and Q itself, worked by hand.
-- module raw_and_stored
-- d device 'GAL22V10';
-- clk,a pin 1,2; p,q pin 23,22 istype 'reg,invert'; !r,!s pin 21,20 istype 'reg,buffer'; w,x,y,z pin 19,18,17,16;
-- equations
-- p := a; q.D = a; r := a; s.D = a; w = q; x = q.Q; y = r; z = r.Q;
-- end
use Rattle.std.specs.Prelude.{◌≡◌, [], ◌∷◌, codes}
use Rattle.meaning_points.specs.Prelude.{digits, ModuleTree, Equations, Design, design_of, gal22v10}
use Rattle.std.proofs.Common.{refl}
use Rattle.abel_tree.specs.declared.words.Extension.TheVariants as extension
use Rattle.meaning_points.specs.ByHand.{points_of, may_be, pin_may_be, next_may_be, at_each}
use Rattle.meaning_points.specs.Constructs.{assign, clocked, item, low_item, pin, device, pins, module_of}
use Rattle.meaning_points.specs.Trees.{word, name, dotted}

-- the module as a tree
abbrev source : ModuleTree
source =
    module_of (codes "raw_and_stored")
    (device "d" "'GAL22V10'"
    ∷ pins (item "clk" ∷ item "a" ∷ []) (pin 1 ∷ pin 2 ∷ []) []
    ∷ pins (item "p" ∷ item "q" ∷ []) (pin 23 ∷ pin 22 ∷ []) (word "'reg,invert'" ∷ [])
    ∷ pins (low_item "r" ∷ low_item "s" ∷ []) (pin 21 ∷ pin 20 ∷ []) (word "'reg,buffer'" ∷ [])
    ∷ pins (item "w" ∷ item "x" ∷ item "y" ∷ item "z" ∷ []) (pin 19 ∷ pin 18 ∷ pin 17 ∷ pin 16 ∷ []) []
    ∷ [])
    (Equations
    (clocked (name "p") (name "a")
    ∷ assign (dotted "q" extension.D) (name "a")
    ∷ clocked (name "r") (name "a")
    ∷ assign (dotted "s" extension.D) (name "a")
    ∷ assign (name "w") (name "q")
    ∷ assign (name "x") (dotted "q" extension.Q)
    ∷ assign (name "y") (name "r")
    ∷ assign (name "z") (dotted "r" extension.Q)
    ∷ [])
    ∷ [])

-- its design
abbrev d : Design
d = design_of gal22v10 source

-- p is to be a, and is the complement of its Q
p_next : at_each (points_of (2 ∷ []) [] []) (next_may_be d "p") ≡ ((1 ∷ []) ∷ (0 ∷ []) ∷ [])
unfolding digits
p_next = refl

-- q.D is the input of the register itself
q_next : at_each (points_of (2 ∷ []) [] []) (next_may_be d "q") ≡ ((0 ∷ []) ∷ (1 ∷ []) ∷ [])
unfolding digits
q_next = refl

-- r is the complement of its pin, which is Q
r_next : at_each (points_of (2 ∷ []) [] []) (next_may_be d "r") ≡ ((1 ∷ []) ∷ (0 ∷ []) ∷ [])
unfolding digits
r_next = refl

-- for s.D neither counts
s_next : at_each (points_of (2 ∷ []) [] []) (next_may_be d "s") ≡ ((0 ∷ []) ∷ (1 ∷ []) ∷ [])
unfolding digits
s_next = refl

-- q reads the complement of its Q, here 1
w_reads : at_each (points_of (2 ∷ []) (1 ∷ []) []) (may_be d "w") ≡ ((0 ∷ []) ∷ (0 ∷ []) ∷ [])
unfolding digits
w_reads = refl

-- q.Q reads Q itself
x_reads : at_each (points_of (2 ∷ []) (1 ∷ []) []) (may_be d "x") ≡ ((1 ∷ []) ∷ (1 ∷ []) ∷ [])
unfolding digits
x_reads = refl

-- r reads the complement of its pin, which is Q = 1
y_reads : at_each (points_of (2 ∷ []) (2 ∷ []) []) (may_be d "y") ≡ ((0 ∷ []) ∷ (0 ∷ []) ∷ [])
unfolding digits
y_reads = refl

-- and r.Q reads Q
z_reads : at_each (points_of (2 ∷ []) (2 ∷ []) []) (may_be d "z") ≡ ((1 ∷ []) ∷ (1 ∷ []) ∷ [])
unfolding digits
z_reads = refl

-- the pin of p has the complement of Q
p_pin : at_each (points_of (2 ∷ []) (0 ∷ []) []) (pin_may_be d "p") ≡ ((0 ∷ []) ∷ (0 ∷ []) ∷ [])
unfolding digits
p_pin = refl

-- the pin of r has Q
r_pin : at_each (points_of (2 ∷ []) (2 ∷ []) []) (pin_may_be d "r") ≡ ((1 ∷ []) ∷ (1 ∷ []) ∷ [])
unfolding digits
r_pin = refl
