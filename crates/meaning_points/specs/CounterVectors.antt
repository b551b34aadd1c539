-- The vectors of a counter on a device whose registers pin 11 enables, worked by hand.
-- module counter_vectors
-- u device 'P16R4';
-- clk,oe pin 1,11; q0,q1 pin 17,16 istype 'reg';
-- equations
-- q0 := !q0; q1 := q1 $ q0;
-- test_vectors ([clk,oe] -> [q1,q0])
-- [0,0] -> 3; [.C.,0] -> 0; [.C.,0] -> 1; [0,1] -> .Z.;
-- end
use Rattle.std.specs.Prelude.{◌≡◌, [], ◌∷◌, codes}
use Rattle.meaning_points.specs.Prelude.{digits, ModuleTree, Equations, Design, design_of, design_vectors, pal16r4}
use Rattle.std.proofs.Common.{refl}
use Rattle.meaning_points.specs.ByHand.{points_of, next_may_be, at_each}
use Rattle.meaning_points.specs.Constructs.{clocked, item, pin, device, pins, row, test_vectors, module_of}
use Rattle.meaning_points.specs.Trees.{word, number, pulse, released, name, set, one, complement, differ}

-- the module as a tree
abbrev source : ModuleTree
source =
    module_of (codes "counter_vectors")
    (device "u" "'P16R4'"
    ∷ pins (item "clk" ∷ item "oe" ∷ []) (pin 1 ∷ pin 11 ∷ []) []
    ∷ pins (item "q0" ∷ item "q1" ∷ []) (pin 17 ∷ pin 16 ∷ []) (word "'reg'" ∷ [])
    ∷ [])
    (Equations
    (clocked (name "q0") (complement (name "q0"))
    ∷ clocked (name "q1") (differ (name "q1") (name "q0"))
    ∷ [])
    ∷ test_vectors
    (set (one (name "clk") ∷ one (name "oe") ∷ []))
    (set (one (name "q1") ∷ one (name "q0") ∷ []))
    (row (set (one (number 0) ∷ one (number 0) ∷ [])) (number 3)
    ∷ row (set (one pulse ∷ one (number 0) ∷ [])) (number 0)
    ∷ row (set (one pulse ∷ one (number 0) ∷ [])) (number 1)
    ∷ row (set (one (number 0) ∷ one (number 1) ∷ [])) released
    ∷ [])
    ∷ [])

-- its design
abbrev d : Design
d = design_of pal16r4 source

-- the characters of all pins, row by row
characters : design_vectors d
    ≡ codes "0XXXXXXXXN0XXXXHHXXN" ∷ codes "CXXXXXXXXN0XXXXLLXXN" ∷ codes "CXXXXXXXXN0XXXXLHXXN"
    ∷ codes "0XXXXXXXXN1XXXXZZXXN" ∷ []
unfolding digits
characters = refl

-- q1 toggles where q0 is 1: q0 has Q = 0 here, so its pin is high and it reads 1; q1 reads 1 as well
q1_next : at_each (points_of (2 ∷ []) [] []) (next_may_be d "q1") ≡ ((1 ∷ []) ∷ (1 ∷ []) ∷ [])
unfolding digits
q1_next = refl
