-- Own complement, and what a second implementation of the language says of it.
-- module own_complement
-- d device 'P16L8';
-- Y pin 18;
-- equations
-- Y = Y & !Y;
-- end
use Rattle.std.specs.Prelude.{◌≡◌, [], ◌∷◌, codes}
use Rattle.meaning_points.specs.Prelude.{digits, make_not, make_and, make_or, make_xor, ModuleTree, Equations, design_of, source_logic, units_of, pal16l8}
use Rattle.std.proofs.Common.{refl}
use Rattle.meaning_points.specs.Answers.{all_reads, all_trees, answers, logic_answers, name_codes, point}
use Rattle.meaning_points.specs.Constructs.{module_of, assign, device, item, pin, pins}
use Rattle.meaning_points.specs.Trees.{both, complement, name}

-- the module as a tree
abbrev source : ModuleTree
source =
    module_of (codes "own_complement")
    (device "d" "'P16L8'" ∷ pins (item "Y" ∷ []) (pin 18 ∷ []) [] ∷ [])
    (Equations (assign (name "Y") (both (name "Y") (complement (name "Y"))) ∷ []) ∷ [])

-- what each name is
names : name_codes (design_of pal16l8 source).context
    ≡ (48000 ∷ 584 ∷ [])
unfolding digits
names = refl

-- at a point, by the logic itself
at0 : logic_answers (source_logic pal16l8 source) (point 1377886 40 0) 0
    ≡ (8 ∷ 6 ∷ 8 ∷ 8 ∷ 8 ∷ 8 ∷ 8 ∷ 8 ∷ [])
unfolding digits
at0 = refl

-- at a second point
at1 : answers (design_of pal16l8 source) (point 485538 68 0) 0
    ≡ (8 ∷ 6 ∷ 8 ∷ 8 ∷ 8 ∷ 8 ∷ 8 ∷ 8 ∷ 2 ∷ 0 ∷ [])
unfolding digits
at1 = refl

-- at a third
at2 : answers (design_of pal16l8 source) (point 1474356 228 0) 0
    ≡ (8 ∷ 6 ∷ 8 ∷ 8 ∷ 8 ∷ 8 ∷ 8 ∷ 8 ∷ 2 ∷ 0 ∷ [])
unfolding digits
at2 = refl

-- which signals each one reads, and which its reset reads
reads : all_reads (design_of pal16l8 source)
    ≡ (([]) ∷ (1 ∷ []) ∷ ([]) ∷ ([]) ∷ [])
unfolding digits make_not make_and make_or make_xor
reads = refl

-- the folded formulas, as numbers
trees : all_trees (design_of pal16l8 source)
    ≡ (([]) ∷ (8544 ∷ 0 ∷ 0 ∷ 0 ∷ 0 ∷ 0 ∷ []) ∷ [])
unfolding digits make_not make_and make_or make_xor
trees = refl

-- the nodes of each unit
units : units_of (design_of pal16l8 source)
    ≡ (4 ∷ [])
unfolding digits make_not make_and make_or make_xor
units = refl
