-- The vectors of an address decoder, with X in their header, worked by hand.
-- module decoder_vectors
-- U09a device 'P16L8';
-- A15,A14,A13,A12,A11,A10 pin 1,2,3,4,5,6; ROM1,IO,ROM2,DRAM pin 14,15,16,17;
-- H,L,X = 1,0,.X.; Address = [A15,A14,A13,A12,A11,A10,X,X,X,X,X,X,X,X,X,X];
-- test_vectors (Address -> [ROM1,ROM2,IO,DRAM])
-- ^h0000 -> [H,H,H,L]; ^hE000 -> [H,H,L,H];
-- end
use Rattle.std.specs.Prelude.{◌≡◌, [], ◌∷◌, codes}
use Rattle.meaning_points.specs.Prelude.{digits, ModuleTree, Design, design_of, design_vectors, pal16l8}
use Rattle.std.proofs.Common.{refl}
use Rattle.meaning_points.specs.Constructs.{item, pins_to, device, pins, constants, row, test_vectors, module_of}
use Rattle.meaning_points.specs.Trees.{word, number, unknown, name, set, one}

-- the module as a tree
abbrev source : ModuleTree
source =
    module_of (codes "decoder_vectors")
    (device "U09a" "'P16L8'"
    ∷ pins
    (item "A15" ∷ item "A14" ∷ item "A13" ∷ item "A12" ∷ item "A11" ∷ item "A10" ∷ [])
    (pins_to 1 6 ∷ []) []
    ∷ pins (item "ROM1" ∷ item "IO" ∷ item "ROM2" ∷ item "DRAM" ∷ []) (pins_to 14 17 ∷ []) []
    ∷ constants (word "H" ∷ word "L" ∷ word "X" ∷ []) (number 1 ∷ number 0 ∷ unknown ∷ [])
    ∷ constants (word "Address" ∷ [])
    (set
    (one (name "A15") ∷ one (name "A14") ∷ one (name "A13") ∷ one (name "A12") ∷ one (name "A11")
    ∷ one (name "A10") ∷ one (name "X") ∷ one (name "X") ∷ one (name "X") ∷ one (name "X")
    ∷ one (name "X") ∷ one (name "X") ∷ one (name "X") ∷ one (name "X") ∷ one (name "X")
    ∷ one (name "X") ∷ [])
    ∷ [])
    ∷ [])
    (test_vectors
    (name "Address")
    (set (one (name "ROM1") ∷ one (name "ROM2") ∷ one (name "IO") ∷ one (name "DRAM") ∷ []))
    (row (number 0) (set (one (name "H") ∷ one (name "H") ∷ one (name "H") ∷ one (name "L") ∷ []))
    ∷ row (number 57344) (set (one (name "H") ∷ one (name "H") ∷ one (name "L") ∷ one (name "H") ∷ []))
    ∷ [])
    ∷ [])

-- its design
abbrev d : Design
d = design_of pal16l8 source

-- the characters of all pins, row by row
characters : design_vectors d
    ≡ codes "000000XXXNXXXHHHLXXN" ∷ codes "111000XXXNXXXHLHHXXN" ∷ []
unfolding digits
characters = refl
