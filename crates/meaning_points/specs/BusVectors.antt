-- The vectors of a pin that is driven by both sides, and of names that are complements, worked by hand.
-- module bus_vectors
-- u device 'P16L8';
-- rd,x pin 1,2; D0 pin 18; Z pin 19; !cs,!ck pin 3,4; !low pin 17;
-- equations
-- D0 = x; D0.OE = rd; Z = D0; low = cs;
-- test_vectors ([rd,x,D0] -> [D0,Z])
-- [0,1,0] -> [.X.,0]; [0,1,1] -> [.X.,1]; [1,1,.X.] -> [1,1]; [1,0,.X.] -> [0,0];
-- test_vectors ([cs,ck] -> low)
-- [1,.C.] -> 1; [0,0] -> 0; [.Z.,.X.] -> .Z.;
-- end
use Rattle.std.specs.Prelude.{◌≡◌, true, false, [], ◌∷◌, codes}
use Rattle.meaning_points.specs.Prelude.{digits, ModuleTree, Equations, Design, design_of, design_vectors, pal16l8}
use Rattle.std.proofs.Common.{refl}
use Rattle.abel_tree.specs.declared.words.Extension.TheVariants as extension
use Rattle.meaning_points.specs.ByHand.{points_of, may_be, is_driven, at_each}
use Rattle.meaning_points.specs.Constructs.{assign, item, low_item, pin, device, pins, row, test_vectors, module_of}
use Rattle.meaning_points.specs.Trees.{number, unknown, pulse, released, name, dotted, set, one}

-- the module as a tree
abbrev source : ModuleTree
source =
    module_of (codes "bus_vectors")
    (device "u" "'P16L8'"
    ∷ pins (item "rd" ∷ item "x" ∷ []) (pin 1 ∷ pin 2 ∷ []) []
    ∷ pins (item "D0" ∷ []) (pin 18 ∷ []) []
    ∷ pins (item "Z" ∷ []) (pin 19 ∷ []) []
    ∷ pins (low_item "cs" ∷ low_item "ck" ∷ []) (pin 3 ∷ pin 4 ∷ []) []
    ∷ pins (low_item "low" ∷ []) (pin 17 ∷ []) []
    ∷ [])
    (Equations
    (assign (name "D0") (name "x")
    ∷ assign (dotted "D0" extension.Oe) (name "rd")
    ∷ assign (name "Z") (name "D0")
    ∷ assign (name "low") (name "cs")
    ∷ [])
    ∷ test_vectors
    (set (one (name "rd") ∷ one (name "x") ∷ one (name "D0") ∷ []))
    (set (one (name "D0") ∷ one (name "Z") ∷ []))
    (row (set (one (number 0) ∷ one (number 1) ∷ one (number 0) ∷ [])) (set (one unknown ∷ one (number 0) ∷ []))
    ∷ row (set (one (number 0) ∷ one (number 1) ∷ one (number 1) ∷ [])) (set (one unknown ∷ one (number 1) ∷ []))
    ∷ row (set (one (number 1) ∷ one (number 1) ∷ one unknown ∷ [])) (set (one (number 1) ∷ one (number 1) ∷ []))
    ∷ row (set (one (number 1) ∷ one (number 0) ∷ one unknown ∷ [])) (set (one (number 0) ∷ one (number 0) ∷ []))
    ∷ [])
    ∷ test_vectors
    (set (one (name "cs") ∷ one (name "ck") ∷ []))
    (name "low")
    (row (set (one (number 1) ∷ one pulse ∷ [])) (number 1)
    ∷ row (set (one (number 0) ∷ one (number 0) ∷ [])) (number 0)
    ∷ row (set (one released ∷ one unknown ∷ [])) released
    ∷ [])
    ∷ [])

-- its design
abbrev d : Design
d = design_of pal16l8 source

-- a bus pin is driven from outside or tested; 1 of a complement is 0 at its pin, and its pulse goes down
characters : design_vectors d
    ≡ codes "01XXXXXXXNXXXXXXX0LN" ∷ codes "01XXXXXXXNXXXXXXX1HN" ∷ codes "11XXXXXXXNXXXXXXXHHN"
    ∷ codes "10XXXXXXXNXXXXXXXLLN" ∷ codes "XX0KXXXXXNXXXXXXLXXN" ∷ codes "XX11XXXXXNXXXXXXHXXN"
    ∷ codes "XXXXXXXXXNXXXXXXZXXN" ∷ []
unfolding digits
characters = refl

-- Z reads the level of pin 18 also if that pin is released
z_reads : at_each (points_of (18 ∷ []) [] []) (may_be d "Z") ≡ ((0 ∷ []) ∷ (1 ∷ []) ∷ [])
unfolding digits
z_reads = refl

-- and D0 is driven while rd holds
d_drives : at_each (points_of (1 ∷ []) [] []) (is_driven d "D0") ≡ (false ∷ true ∷ [])
unfolding digits
d_drives = refl
