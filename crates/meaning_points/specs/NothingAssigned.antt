-- Nothing assigned, and what a second implementation of the language says of it.
-- module nothing_assigned
-- u device 'P16L8';
-- a pin 1;
-- end
use Rattle.std.specs.Prelude.{◌≡◌, [], ◌∷◌, codes}
use Rattle.meaning_points.specs.Prelude.{digits, make_not, make_and, make_or, make_xor, ModuleTree, design_of, source_logic, units_of, pal16l8}
use Rattle.std.proofs.Common.{refl}
use Rattle.meaning_points.specs.Answers.{all_reads, all_trees, answers, logic_answers, name_codes, point}
use Rattle.meaning_points.specs.Constructs.{module_of, device, item, pin, pins}

-- the module as a tree
abbrev source : ModuleTree
source =
    module_of (codes "nothing_assigned")
    (device "u" "'P16L8'" ∷ pins (item "a" ∷ []) (pin 1 ∷ []) [] ∷ [])
    ([])

-- what each name is
names : name_codes (design_of pal16l8 source).context
    ≡ (48000 ∷ 32 ∷ [])
unfolding digits
names = refl

-- at a point, by the logic itself
at0 : logic_answers (source_logic pal16l8 source) (point 1395008 197 0) 0
    ≡ (8 ∷ 8 ∷ 8 ∷ 8 ∷ 8 ∷ 8 ∷ 8 ∷ 8 ∷ [])
unfolding digits
at0 = refl

-- at a second point
at1 : answers (design_of pal16l8 source) (point 2011440 94 0) 0
    ≡ (8 ∷ 8 ∷ 8 ∷ 8 ∷ 8 ∷ 8 ∷ 8 ∷ 8 ∷ 2 ∷ 2 ∷ [])
unfolding digits
at1 = refl

-- at a third
at2 : answers (design_of pal16l8 source) (point 1068858 70 0) 0
    ≡ (8 ∷ 8 ∷ 8 ∷ 8 ∷ 8 ∷ 8 ∷ 8 ∷ 8 ∷ 2 ∷ 2 ∷ [])
unfolding digits
at2 = refl

-- which signals each one reads, and which its reset reads
reads : all_reads (design_of pal16l8 source)
    ≡ (([]) ∷ ([]) ∷ ([]) ∷ ([]) ∷ [])
unfolding digits make_not make_and make_or make_xor
reads = refl

-- the folded formulas, as numbers
trees : all_trees (design_of pal16l8 source)
    ≡ (([]) ∷ ([]) ∷ [])
unfolding digits make_not make_and make_or make_xor
trees = refl

-- the nodes of each unit
units : units_of (design_of pal16l8 source)
    ≡ ([])
unfolding digits make_not make_and make_or make_xor
units = refl
