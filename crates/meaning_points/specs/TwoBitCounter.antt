-- Two bit counter, and what a second implementation of the language says of it.
-- module two_bit_counter
-- u device 'P16R4';
-- clk,oe pin 1,11; q0,q1 pin 17,16 istype 'reg';
-- equations
-- q0 := !q0; q1 := q1 $ q0;
-- test_vectors ([clk,oe] -> [q1,q0])
-- [0,0] -> 3; [.C.,0] -> 0; [.C.,0] -> 1; [0,1] -> .Z.;
-- end
use Rattle.std.specs.Prelude.{◌≡◌, [], ◌∷◌, codes}
use Rattle.meaning_points.specs.Prelude.{digits, make_not, make_and, make_or, make_xor, ModuleTree, Equations, design_of, source_logic, units_of, pal16r4}
use Rattle.std.proofs.Common.{refl}
use Rattle.meaning_points.specs.Answers.{all_reads, all_trees, answers, logic_answers, name_codes, point}
use Rattle.meaning_points.specs.Constructs.{module_of, clocked, device, item, pin, pins, vectors}
use Rattle.meaning_points.specs.Trees.{complement, differ, name, word}

-- the module as a tree
abbrev source : ModuleTree
source =
    module_of (codes "two_bit_counter")
    (device "u" "'P16R4'"
    ∷ pins (item "clk" ∷ item "oe" ∷ []) (pin 1 ∷ pin 11 ∷ []) []
    ∷ pins (item "q0" ∷ item "q1" ∷ []) (pin 17 ∷ pin 16 ∷ []) (word "'reg'" ∷ [])
    ∷ [])
    (Equations
    (clocked (name "q0") (complement (name "q0"))
    ∷ clocked (name "q1") (differ (name "q1") (name "q0"))
    ∷ [])
    ∷ vectors
    ∷ [])

-- what each name is
names : name_codes (design_of pal16r4 source).context
    ≡ (48000 ∷ 32 ∷ 352 ∷ 553 ∷ 521 ∷ [])
unfolding digits
names = refl

-- at a point, by the logic itself
at0 : logic_answers (source_logic pal16r4 source) (point 242548 48 0) 0
    ≡ (8 ∷ 8 ∷ 139 ∷ 139 ∷ 71 ∷ 71 ∷ 8 ∷ 8 ∷ [])
unfolding digits
at0 = refl

-- at a second point
at1 : answers (design_of pal16r4 source) (point 685010 241 0) 0
    ≡ (8 ∷ 8 ∷ 139 ∷ 139 ∷ 71 ∷ 71 ∷ 8 ∷ 8 ∷ 2 ∷ 2 ∷ 2 ∷ 0 ∷ 0 ∷ [])
unfolding digits
at1 = refl

-- at a third
at2 : answers (design_of pal16r4 source) (point 1869744 105 0) 0
    ≡ (8 ∷ 8 ∷ 139 ∷ 71 ∷ 75 ∷ 71 ∷ 8 ∷ 8 ∷ 2 ∷ 2 ∷ 2 ∷ 0 ∷ 1 ∷ [])
unfolding digits
at2 = refl

-- which signals each one reads, and which its reset reads
reads : all_reads (design_of pal16r4 source)
    ≡ (([]) ∷ ([]) ∷ ([]) ∷ ([]) ∷ ([]) ∷ ([]) ∷ ([]) ∷ ([]) ∷ ([]) ∷ ([]) ∷ [])
unfolding digits make_not make_and make_or make_xor
reads = refl

-- the folded formulas, as numbers
trees : all_trees (design_of pal16r4 source)
    ≡ (([]) ∷ ([]) ∷ ([]) ∷ (17 ∷ 0 ∷ 0 ∷ 0 ∷ 0 ∷ 0 ∷ []) ∷ (10480 ∷ 0 ∷ 0 ∷ 0 ∷ 0 ∷ 0 ∷ []) ∷ [])
unfolding digits make_not make_and make_or make_xor
trees = refl

-- the nodes of each unit
units : units_of (design_of pal16r4 source)
    ≡ (2 ∷ 5 ∷ [])
unfolding digits make_not make_and make_or make_xor
units = refl
