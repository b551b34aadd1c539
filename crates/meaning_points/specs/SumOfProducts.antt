-- Sum of products, and what a second implementation of the language says of it.
-- module sum_of_products
-- u device 'P16L8';
-- a,b,c pin 1,2,3;
-- Y pin 19;
-- equations
-- !Y = a & b # c;
-- end
use Rattle.std.specs.Prelude.{◌≡◌, [], ◌∷◌, codes}
use Rattle.meaning_points.specs.Prelude.{digits, make_not, make_and, make_or, make_xor, ModuleTree, Equations, design_of, source_logic, units_of, pal16l8}
use Rattle.std.proofs.Common.{refl}
use Rattle.meaning_points.specs.Answers.{all_reads, all_trees, answers, logic_answers, name_codes, point}
use Rattle.meaning_points.specs.Constructs.{module_of, device, item, not_assign, pin, pins}
use Rattle.meaning_points.specs.Trees.{both, either, name}

-- the module as a tree
abbrev source : ModuleTree
source =
    module_of (codes "sum_of_products")
    (device "u" "'P16L8'"
    ∷ pins (item "a" ∷ item "b" ∷ item "c" ∷ []) (pin 1 ∷ pin 2 ∷ pin 3 ∷ []) []
    ∷ pins (item "Y" ∷ []) (pin 19 ∷ []) []
    ∷ [])
    (Equations (not_assign (name "Y") (either (both (name "a") (name "b")) (name "c")) ∷ []) ∷ [])

-- what each name is
names : name_codes (design_of pal16l8 source).context
    ≡ (48000 ∷ 32 ∷ 64 ∷ 96 ∷ 616 ∷ [])
unfolding digits
names = refl

-- at a point, by the logic itself
at0 : logic_answers (source_logic pal16l8 source) (point 1228330 218 0) 0
    ≡ (6 ∷ 8 ∷ 8 ∷ 8 ∷ 8 ∷ 8 ∷ 8 ∷ 8 ∷ [])
unfolding digits
at0 = refl

-- at a second point
at1 : answers (design_of pal16l8 source) (point 473970 70 0) 0
    ≡ (10 ∷ 8 ∷ 8 ∷ 8 ∷ 8 ∷ 8 ∷ 8 ∷ 8 ∷ 2 ∷ 2 ∷ 2 ∷ 2 ∷ 1 ∷ [])
unfolding digits
at1 = refl

-- at a third
at2 : answers (design_of pal16l8 source) (point 391362 101 0) 0
    ≡ (10 ∷ 8 ∷ 8 ∷ 8 ∷ 8 ∷ 8 ∷ 8 ∷ 8 ∷ 2 ∷ 2 ∷ 2 ∷ 2 ∷ 1 ∷ [])
unfolding digits
at2 = refl

-- which signals each one reads, and which its reset reads
reads : all_reads (design_of pal16l8 source)
    ≡ (([]) ∷ ([]) ∷ ([]) ∷ ([]) ∷ ([]) ∷ ([]) ∷ ([]) ∷ ([]) ∷ ([]) ∷ ([]) ∷ [])
unfolding digits make_not make_and make_or make_xor
reads = refl

-- the folded formulas, as numbers
trees : all_trees (design_of pal16l8 source)
    ≡ (([]) ∷ ([]) ∷ ([]) ∷ ([]) ∷ (10966 ∷ 0 ∷ 1 ∷ 0 ∷ 0 ∷ 0 ∷ []) ∷ [])
unfolding digits make_not make_and make_or make_xor
trees = refl

-- the nodes of each unit
units : units_of (design_of pal16l8 source)
    ≡ (5 ∷ [])
unfolding digits make_not make_and make_or make_xor
units = refl
