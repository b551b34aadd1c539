-- Crossed gates, and what a second implementation of the language says of it.
-- module crossed_gates
-- d device 'P16L8';
-- a,b pin 1,2; Y,Z pin 18,17;
-- equations
-- Y = !(a & Z); Z = !(b & Y);
-- end
use Rattle.std.specs.Prelude.{◌≡◌, [], ◌∷◌, codes}
use Rattle.meaning_points.specs.Prelude.{digits, make_not, make_and, make_or, make_xor, ModuleTree, Equations, design_of, source_logic, units_of, pal16l8}
use Rattle.std.proofs.Common.{refl}
use Rattle.meaning_points.specs.Answers.{all_reads, all_trees, answers, logic_answers, name_codes, point}
use Rattle.meaning_points.specs.Constructs.{module_of, assign, device, item, pin, pins}
use Rattle.meaning_points.specs.Trees.{both, complement, name, paren}

-- the module as a tree
abbrev source : ModuleTree
source =
    module_of (codes "crossed_gates")
    (device "d" "'P16L8'"
    ∷ pins (item "a" ∷ item "b" ∷ []) (pin 1 ∷ pin 2 ∷ []) []
    ∷ pins (item "Y" ∷ item "Z" ∷ []) (pin 18 ∷ pin 17 ∷ []) []
    ∷ [])
    (Equations
    (assign (name "Y") (complement (paren (both (name "a") (name "Z"))))
    ∷ assign (name "Z") (complement (paren (both (name "b") (name "Y"))))
    ∷ [])
    ∷ [])

-- what each name is
names : name_codes (design_of pal16l8 source).context
    ≡ (48000 ∷ 32 ∷ 64 ∷ 584 ∷ 552 ∷ [])
unfolding digits
names = refl

-- at a point, by the logic itself
at0 : logic_answers (source_logic pal16l8 source) (point 1384620 247 0) 0
    ≡ (8 ∷ 10 ∷ 6 ∷ 8 ∷ 8 ∷ 8 ∷ 8 ∷ 8 ∷ [])
unfolding digits
at0 = refl

-- at a second point
at1 : answers (design_of pal16l8 source) (point 1584920 162 0) 0
    ≡ (8 ∷ 10 ∷ 10 ∷ 8 ∷ 8 ∷ 8 ∷ 8 ∷ 8 ∷ 2 ∷ 2 ∷ 2 ∷ 1 ∷ 1 ∷ [])
unfolding digits
at1 = refl

-- at a third
at2 : answers (design_of pal16l8 source) (point 188746 251 0) 0
    ≡ (8 ∷ 6 ∷ 10 ∷ 8 ∷ 8 ∷ 8 ∷ 8 ∷ 8 ∷ 2 ∷ 2 ∷ 2 ∷ 0 ∷ 1 ∷ [])
unfolding digits
at2 = refl

-- which signals each one reads, and which its reset reads
reads : all_reads (design_of pal16l8 source)
    ≡ (([]) ∷ ([]) ∷ ([]) ∷ (4 ∷ []) ∷ (3 ∷ []) ∷ ([]) ∷ ([]) ∷ ([]) ∷ ([]) ∷ ([]) ∷ [])
unfolding digits make_not make_and make_or make_xor
reads = refl

-- the folded formulas, as numbers
trees : all_trees (design_of pal16l8 source)
    ≡ (([]) ∷ ([]) ∷ ([]) ∷ (8524 ∷ 0 ∷ 0 ∷ 0 ∷ 0 ∷ 0 ∷ []) ∷ (9154 ∷ 0 ∷ 0 ∷ 0 ∷ 0 ∷ 0 ∷ []) ∷ [])
unfolding digits make_not make_and make_or make_xor
trees = refl

-- the nodes of each unit
units : units_of (design_of pal16l8 source)
    ≡ (4 ∷ 4 ∷ [])
unfolding digits make_not make_and make_or make_xor
units = refl
