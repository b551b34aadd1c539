-- Ten bit equality, and what a second implementation of the language says of it.
-- module ten_bit_equality
-- d device 'GAL22V10';
-- a9,a8,a7,a6,a5,a4,a3,a2,a1,a0 pin 1..10;
-- b9,b8,b7,b6,b5,b4,b3,b2,b1,b0 pin 11,13,14,15,16,17,19,20,21,22;
-- Y pin 18;
-- equations
-- Y = [a9..a0] == [b9..b0];
-- end
use Rattle.std.specs.Prelude.{◌≡◌, [], ◌∷◌, codes}
use Rattle.meaning_points.specs.Prelude.{digits, make_not, make_and, make_or, make_xor, ModuleTree, Equations, design_of, source_logic, units_of, gal22v10}
use Rattle.std.proofs.Common.{refl}
use Rattle.meaning_points.specs.Answers.{all_reads, all_trees, answers, logic_answers, name_codes, point}
use Rattle.meaning_points.specs.Constructs.{module_of, assign, device, item, pin, pins, pins_to}
use Rattle.meaning_points.specs.Trees.{equal, name, set, span}

-- the module as a tree
abbrev source : ModuleTree
source =
    module_of (codes "ten_bit_equality")
    (device "d" "'GAL22V10'"
    ∷ pins
    (item "a9"
    ∷ item "a8"
    ∷ item "a7"
    ∷ item "a6"
    ∷ item "a5"
    ∷ item "a4"
    ∷ item "a3"
    ∷ item "a2"
    ∷ item "a1"
    ∷ item "a0"
    ∷ [])
    (pins_to 1 10 ∷ []) []
    ∷ pins
    (item "b9"
    ∷ item "b8"
    ∷ item "b7"
    ∷ item "b6"
    ∷ item "b5"
    ∷ item "b4"
    ∷ item "b3"
    ∷ item "b2"
    ∷ item "b1"
    ∷ item "b0"
    ∷ [])
    (pin 11 ∷ pin 13 ∷ pin 14 ∷ pin 15 ∷ pin 16 ∷ pin 17 ∷ pin 19 ∷ pin 20 ∷ pin 21 ∷ pin 22 ∷ []) []
    ∷ pins (item "Y" ∷ []) (pin 18 ∷ []) []
    ∷ [])
    (Equations (assign (name "Y") (equal (set (span "a9" "a0" ∷ [])) (set (span "b9" "b0" ∷ []))) ∷ []) ∷ [])

-- what each name is
names : name_codes (design_of gal22v10 source).context
    ≡ (48000 ∷ 32 ∷ 64 ∷ 96 ∷ 128 ∷ 160 ∷ 192 ∷ 224 ∷ 256 ∷ 288 ∷ 320 ∷ 352 ∷ 416 ∷ 448 ∷ 480 ∷ 512 ∷ 544
    ∷ 608 ∷ 640 ∷ 672 ∷ 704 ∷ 584 ∷ [])
unfolding digits
names = refl

-- at a point, by the logic itself
at0 : logic_answers (source_logic gal22v10 source) (point 26072908 616 0) 0
    ≡ (8 ∷ 8 ∷ 8 ∷ 8 ∷ 8 ∷ 6 ∷ 8 ∷ 8 ∷ 8 ∷ 8 ∷ [])
unfolding digits
at0 = refl

-- at a second point
at1 : answers (design_of gal22v10 source) (point 21003848 605 0) 0
    ≡ (8 ∷ 8 ∷ 8 ∷ 8 ∷ 8 ∷ 6 ∷ 8 ∷ 8 ∷ 8 ∷ 8 ∷ 2 ∷ 2 ∷ 2 ∷ 2 ∷ 2 ∷ 2 ∷ 2 ∷ 2 ∷ 2 ∷ 2 ∷ 2 ∷ 2 ∷ 2 ∷ 2 ∷ 2 ∷ 2
    ∷ 2 ∷ 2 ∷ 2 ∷ 2 ∷ 2 ∷ 0 ∷ [])
unfolding digits
at1 = refl

-- at a third
at2 : answers (design_of gal22v10 source) (point 352618 342 0) 0
    ≡ (8 ∷ 8 ∷ 8 ∷ 8 ∷ 8 ∷ 6 ∷ 8 ∷ 8 ∷ 8 ∷ 8 ∷ 2 ∷ 2 ∷ 2 ∷ 2 ∷ 2 ∷ 2 ∷ 2 ∷ 2 ∷ 2 ∷ 2 ∷ 2 ∷ 2 ∷ 2 ∷ 2 ∷ 2 ∷ 2
    ∷ 2 ∷ 2 ∷ 2 ∷ 2 ∷ 2 ∷ 0 ∷ [])
unfolding digits
at2 = refl

-- which signals each one reads, and which its reset reads
reads : all_reads (design_of gal22v10 source)
    ≡ (([]) ∷ ([]) ∷ ([]) ∷ ([]) ∷ ([]) ∷ ([]) ∷ ([]) ∷ ([]) ∷ ([]) ∷ ([]) ∷ ([]) ∷ ([]) ∷ ([]) ∷ ([]) ∷ ([])
    ∷ ([]) ∷ ([]) ∷ ([]) ∷ ([]) ∷ ([]) ∷ ([]) ∷ ([]) ∷ ([]) ∷ ([]) ∷ ([]) ∷ ([]) ∷ ([]) ∷ ([]) ∷ ([])
    ∷ ([]) ∷ ([]) ∷ ([]) ∷ ([]) ∷ ([]) ∷ ([]) ∷ ([]) ∷ ([]) ∷ ([]) ∷ ([]) ∷ ([]) ∷ ([]) ∷ ([]) ∷ ([])
    ∷ ([]) ∷ [])
unfolding digits make_not make_and make_or make_xor
reads = refl

-- the folded formulas, as numbers
trees : all_trees (design_of gal22v10 source)
    ≡ (([]) ∷ ([]) ∷ ([]) ∷ ([]) ∷ ([]) ∷ ([]) ∷ ([]) ∷ ([]) ∷ ([]) ∷ ([]) ∷ ([]) ∷ ([]) ∷ ([]) ∷ ([]) ∷ ([])
    ∷ ([]) ∷ ([]) ∷ ([]) ∷ ([]) ∷ ([]) ∷ ([]) ∷ (618500 ∷ 0 ∷ 0 ∷ 0 ∷ 0 ∷ 0 ∷ []) ∷ [])
unfolding digits make_not make_and make_or make_xor
trees = refl

-- the nodes of each unit
units : units_of (design_of gal22v10 source)
    ≡ (49 ∷ [])
unfolding digits make_not make_and make_or make_xor
units = refl
