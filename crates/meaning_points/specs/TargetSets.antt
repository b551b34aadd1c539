-- Target sets, and what a second implementation of the language says of it.
-- module target_sets
-- d device 'GAL22V10';
-- a,b,c,e,f,g pin 2,3,4,5,6,7; !h pin 8;
-- y0,y1,y2,y3,y4,y5,y6,y7 pin 21..14;
-- equations
-- [y0..y3] = ([a,b,c,e] + [e,f,g,h]) & a; [y4,y5] = h; [y6,y7] = - [a,h];
-- end
use Rattle.std.specs.Prelude.{◌≡◌, [], ◌∷◌, codes}
use Rattle.meaning_points.specs.Prelude.{digits, make_not, make_and, make_or, make_xor, ModuleTree, Equations, design_of, source_logic, units_of, gal22v10}
use Rattle.std.proofs.Common.{refl}
use Rattle.meaning_points.specs.Answers.{all_reads, all_trees, answers, logic_answers, name_codes, point}
use Rattle.meaning_points.specs.Constructs.{module_of, assign, device, item, low_item, pin, pins, pins_to}
use Rattle.meaning_points.specs.Trees.{both, name, negative, one, paren, plus, set, span}

-- the module as a tree
abbrev source : ModuleTree
source =
    module_of (codes "target_sets")
    (device "d" "'GAL22V10'"
    ∷ pins
    (item "a" ∷ item "b" ∷ item "c" ∷ item "e" ∷ item "f" ∷ item "g" ∷ [])
    (pin 2 ∷ pin 3 ∷ pin 4 ∷ pin 5 ∷ pin 6 ∷ pin 7 ∷ []) []
    ∷ pins (low_item "h" ∷ []) (pin 8 ∷ []) []
    ∷ pins
    (item "y0"
    ∷ item "y1"
    ∷ item "y2"
    ∷ item "y3"
    ∷ item "y4"
    ∷ item "y5"
    ∷ item "y6"
    ∷ item "y7"
    ∷ [])
    (pins_to 21 14 ∷ []) []
    ∷ [])
    (Equations
    (assign (set (span "y0" "y3" ∷ []))
    (both
    (paren
    (plus (set (one (name "a") ∷ one (name "b") ∷ one (name "c") ∷ one (name "e") ∷ []))
    (set (one (name "e") ∷ one (name "f") ∷ one (name "g") ∷ one (name "h") ∷ []))))
    (name "a"))
    ∷ assign (set (one (name "y4") ∷ one (name "y5") ∷ [])) (name "h")
    ∷ assign (set (one (name "y6") ∷ one (name "y7") ∷ []))
    (negative (set (one (name "a") ∷ one (name "h") ∷ [])))
    ∷ [])
    ∷ [])

-- what each name is
names : name_codes (design_of gal22v10 source).context
    ≡ (48000 ∷ 64 ∷ 96 ∷ 128 ∷ 160 ∷ 192 ∷ 224 ∷ 272 ∷ 680 ∷ 648 ∷ 616 ∷ 584 ∷ 552 ∷ 520 ∷ 488 ∷ 456 ∷ [])
unfolding digits
names = refl

-- at a point, by the logic itself
at0 : logic_answers (source_logic gal22v10 source) (point 8976370 904 0) 0
    ≡ (8 ∷ 8 ∷ 6 ∷ 6 ∷ 6 ∷ 6 ∷ 6 ∷ 6 ∷ 6 ∷ 6 ∷ [])
unfolding digits
at0 = refl

-- at a second point
at1 : answers (design_of gal22v10 source) (point 27343678 750 0) 0
    ≡ (8 ∷ 8 ∷ 6 ∷ 10 ∷ 10 ∷ 10 ∷ 6 ∷ 6 ∷ 10 ∷ 6 ∷ 2 ∷ 2 ∷ 2 ∷ 2 ∷ 2 ∷ 2 ∷ 2 ∷ 2 ∷ 0 ∷ 1 ∷ 1 ∷ 1 ∷ 0 ∷ 0 ∷ 1
    ∷ 0 ∷ [])
unfolding digits
at1 = refl

-- at a third
at2 : answers (design_of gal22v10 source) (point 29189010 346 0) 0
    ≡ (8 ∷ 8 ∷ 6 ∷ 6 ∷ 6 ∷ 6 ∷ 6 ∷ 6 ∷ 6 ∷ 6 ∷ 2 ∷ 2 ∷ 2 ∷ 2 ∷ 2 ∷ 2 ∷ 2 ∷ 2 ∷ 0 ∷ 0 ∷ 0 ∷ 0 ∷ 0 ∷ 0 ∷ 0 ∷ 0
    ∷ [])
unfolding digits
at2 = refl

-- which signals each one reads, and which its reset reads
reads : all_reads (design_of gal22v10 source)
    ≡ (([]) ∷ ([]) ∷ ([]) ∷ ([]) ∷ ([]) ∷ ([]) ∷ ([]) ∷ ([]) ∷ ([]) ∷ ([]) ∷ ([]) ∷ ([]) ∷ ([]) ∷ ([]) ∷ ([])
    ∷ ([]) ∷ ([]) ∷ ([]) ∷ ([]) ∷ ([]) ∷ ([]) ∷ ([]) ∷ ([]) ∷ ([]) ∷ ([]) ∷ ([]) ∷ ([]) ∷ ([]) ∷ ([])
    ∷ ([]) ∷ ([]) ∷ ([]) ∷ [])
unfolding digits make_not make_and make_or make_xor
reads = refl

-- the folded formulas, as numbers
trees : all_trees (design_of gal22v10 source)
    ≡ (([]) ∷ ([]) ∷ ([]) ∷ ([]) ∷ ([]) ∷ ([]) ∷ ([]) ∷ ([]) ∷ (453355 ∷ 0 ∷ 0 ∷ 0 ∷ 0 ∷ 0 ∷ []) ∷ (112192
    ∷ 0 ∷ 0 ∷ 0 ∷ 0 ∷ 0 ∷ []) ∷ (399384 ∷ 0 ∷ 0 ∷ 0 ∷ 0 ∷ 0 ∷ []) ∷ (142230 ∷ 0 ∷ 0 ∷ 0 ∷ 0 ∷ 0 ∷ [])
    ∷ (243 ∷ 0 ∷ 0 ∷ 0 ∷ 0 ∷ 0 ∷ []) ∷ (243 ∷ 0 ∷ 0 ∷ 0 ∷ 0 ∷ 0 ∷ []) ∷ (5754 ∷ 0 ∷ 0 ∷ 0 ∷ 0 ∷ 0 ∷ [])
    ∷ (243 ∷ 0 ∷ 0 ∷ 0 ∷ 0 ∷ 0 ∷ []) ∷ [])
unfolding digits make_not make_and make_or make_xor
trees = refl

-- the nodes of each unit
units : units_of (design_of gal22v10 source)
    ≡ (31 ∷ 2 ∷ 6 ∷ [])
unfolding digits make_not make_and make_or make_xor
units = refl
