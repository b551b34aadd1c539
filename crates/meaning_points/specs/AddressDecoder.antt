-- Address decoder, and what a second implementation of the language says of it.
-- module address_decoder
-- title '6809 memory decode
-- on one PAL'
--      U09a  device  'P16L8';
--      A15,A14,A13,A12,A11,A10  pin 1,2,3,4,5,6;
--      ROM1,IO,ROM2,DRAM        pin 14,15,16,17;
--      H,L,X   = 1,0,.X.;
--      Address = [A15,A14,A13,A12, A11,A10,X,X, X,X,X,X, X,X,X,X];
-- equations
--      !DRAM  = (Address <= ^hDFFF);
--      !IO    = (Address >= ^hE000) & (Address <= ^hE7FF);
--      !ROM2  = (Address >= ^hF000) & (Address <= ^hF7FF);
--      !ROM1  = (Address >= ^hF800);
-- test_vectors (Address -> [ROM1,ROM2,IO,DRAM])
--      ^h0000 -> [H,H,H,L];
-- end m6809a
use Rattle.std.specs.Prelude.{◌≡◌, [], ◌∷◌, codes}
use Rattle.meaning_points.specs.Prelude.{digits, make_not, make_and, make_or, make_xor, ModuleTree, Equations, design_of, source_logic, units_of, pal16l8}
use Rattle.std.proofs.Common.{refl}
use Rattle.meaning_points.specs.Answers.{all_reads, all_trees, answers, logic_answers, name_codes, point}
use Rattle.meaning_points.specs.Constructs.{module_of, constants, device, item, not_assign, pin, pins, vectors}
use Rattle.meaning_points.specs.Trees.{at_least, at_most, both, name, number, one, paren, set, unknown, word}

-- the module as a tree
abbrev source : ModuleTree
source =
    module_of (codes "address_decoder")
    (device "U09a" "'P16L8'"
    ∷ pins
    (item "A15" ∷ item "A14" ∷ item "A13" ∷ item "A12" ∷ item "A11" ∷ item "A10" ∷ [])
    (pin 1 ∷ pin 2 ∷ pin 3 ∷ pin 4 ∷ pin 5 ∷ pin 6 ∷ []) []
    ∷ pins (item "ROM1" ∷ item "IO" ∷ item "ROM2" ∷ item "DRAM" ∷ [])
    (pin 14 ∷ pin 15 ∷ pin 16 ∷ pin 17 ∷ []) []
    ∷ constants (word "H" ∷ word "L" ∷ word "X" ∷ []) (number 1 ∷ number 0 ∷ unknown ∷ [])
    ∷ constants (word "Address" ∷ [])
    (set
    (one (name "A15")
    ∷ one (name "A14")
    ∷ one (name "A13")
    ∷ one (name "A12")
    ∷ one (name "A11")
    ∷ one (name "A10")
    ∷ one (name "X")
    ∷ one (name "X")
    ∷ one (name "X")
    ∷ one (name "X")
    ∷ one (name "X")
    ∷ one (name "X")
    ∷ one (name "X")
    ∷ one (name "X")
    ∷ one (name "X")
    ∷ one (name "X")
    ∷ [])
    ∷ [])
    ∷ [])
    (Equations
    (not_assign (name "DRAM") (paren (at_most (name "Address") (number 57343)))
    ∷ not_assign (name "IO")
    (both (paren (at_least (name "Address") (number 57344)))
    (paren (at_most (name "Address") (number 59391))))
    ∷ not_assign (name "ROM2")
    (both (paren (at_least (name "Address") (number 61440)))
    (paren (at_most (name "Address") (number 63487))))
    ∷ not_assign (name "ROM1") (paren (at_least (name "Address") (number 63488)))
    ∷ [])
    ∷ vectors
    ∷ [])

-- what each name is
names : name_codes (design_of pal16l8 source).context
    ≡ (48000 ∷ 32 ∷ 64 ∷ 96 ∷ 128 ∷ 160 ∷ 192 ∷ 456 ∷ 488 ∷ 520 ∷ 552 ∷ 32000 ∷ 32000 ∷ 32000 ∷ 32000 ∷ [])
unfolding digits
names = refl

-- at a point, by the logic itself
at0 : logic_answers (source_logic pal16l8 source) (point 973446 207 0) 0
    ≡ (8 ∷ 8 ∷ 6 ∷ 10 ∷ 10 ∷ 10 ∷ 8 ∷ 8 ∷ [])
unfolding digits
at0 = refl

-- at a second point
at1 : answers (design_of pal16l8 source) (point 769334 166 0) 0
    ≡ (8 ∷ 8 ∷ 6 ∷ 10 ∷ 10 ∷ 10 ∷ 8 ∷ 8 ∷ 2 ∷ 2 ∷ 2 ∷ 2 ∷ 2 ∷ 2 ∷ 2 ∷ 1 ∷ 1 ∷ 1 ∷ 0 ∷ 2 ∷ 2 ∷ 2 ∷ 2 ∷ [])
unfolding digits
at1 = refl

-- at a third
at2 : answers (design_of pal16l8 source) (point 392438 99 0) 0
    ≡ (8 ∷ 8 ∷ 6 ∷ 10 ∷ 10 ∷ 10 ∷ 8 ∷ 8 ∷ 2 ∷ 2 ∷ 2 ∷ 2 ∷ 2 ∷ 2 ∷ 2 ∷ 1 ∷ 1 ∷ 1 ∷ 0 ∷ 2 ∷ 2 ∷ 2 ∷ 2 ∷ [])
unfolding digits
at2 = refl

-- which signals each one reads, and which its reset reads
reads : all_reads (design_of pal16l8 source)
    ≡ (([]) ∷ ([]) ∷ ([]) ∷ ([]) ∷ ([]) ∷ ([]) ∷ ([]) ∷ ([]) ∷ ([]) ∷ ([]) ∷ ([]) ∷ ([]) ∷ ([]) ∷ ([]) ∷ ([])
    ∷ ([]) ∷ ([]) ∷ ([]) ∷ ([]) ∷ ([]) ∷ ([]) ∷ ([]) ∷ ([]) ∷ ([]) ∷ ([]) ∷ ([]) ∷ ([]) ∷ ([]) ∷ ([])
    ∷ ([]) ∷ [])
unfolding digits make_not make_and make_or make_xor
reads = refl

-- the folded formulas, as numbers
trees : all_trees (design_of pal16l8 source)
    ≡ (([]) ∷ ([]) ∷ ([]) ∷ ([]) ∷ ([]) ∷ ([]) ∷ ([]) ∷ (110109 ∷ 0 ∷ 1 ∷ 0 ∷ 0 ∷ 0 ∷ []) ∷ (59597 ∷ 0 ∷ 1
    ∷ 0 ∷ 0 ∷ 0 ∷ []) ∷ (51793 ∷ 0 ∷ 1 ∷ 0 ∷ 0 ∷ 0 ∷ []) ∷ (65763 ∷ 0 ∷ 1 ∷ 0 ∷ 0 ∷ 0 ∷ []) ∷ ([]) ∷ ([])
    ∷ ([]) ∷ ([]) ∷ [])
unfolding digits make_not make_and make_or make_xor
trees = refl

-- the nodes of each unit
units : units_of (design_of pal16l8 source)
    ≡ (9 ∷ 33 ∷ 34 ∷ 23 ∷ [])
unfolding digits make_not make_and make_or make_xor
units = refl
