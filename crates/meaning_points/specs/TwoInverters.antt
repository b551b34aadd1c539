-- Two inverters, and what a second implementation of the language says of it.
-- module two_inverters
-- d device 'P16L8';
-- A0,A1 pin 2,3; Y0,Y1 pin 19,18;
-- inv MACRO (n) {Y?n = !A?n;};
-- equations
-- @IRP i (0,1) {inv(?i)}
-- end
use Rattle.std.specs.Prelude.{◌≡◌, [], ◌∷◌, codes}
use Rattle.meaning_points.specs.Prelude.{digits, make_not, make_and, make_or, make_xor, ModuleTree, Equations, design_of, source_logic, units_of, pal16l8}
use Rattle.std.proofs.Common.{refl}
use Rattle.meaning_points.specs.Answers.{all_reads, all_trees, answers, logic_answers, name_codes, point}
use Rattle.meaning_points.specs.Constructs.{module_of, assign, device, item, pin, pins}
use Rattle.meaning_points.specs.Trees.{complement, name}

-- the module as a tree
abbrev source : ModuleTree
source =
    module_of (codes "two_inverters")
    (device "d" "'P16L8'"
    ∷ pins (item "A0" ∷ item "A1" ∷ []) (pin 2 ∷ pin 3 ∷ []) []
    ∷ pins (item "Y0" ∷ item "Y1" ∷ []) (pin 19 ∷ pin 18 ∷ []) []
    ∷ [])
    (Equations
    (assign (name "Y0") (complement (name "A0")) ∷ assign (name "Y1") (complement (name "A1")) ∷ [])
    ∷ [])

-- what each name is
names : name_codes (design_of pal16l8 source).context
    ≡ (48000 ∷ 64 ∷ 96 ∷ 616 ∷ 584 ∷ [])
unfolding digits
names = refl

-- at a point, by the logic itself
at0 : logic_answers (source_logic pal16l8 source) (point 585072 62 0) 0
    ≡ (10 ∷ 10 ∷ 8 ∷ 8 ∷ 8 ∷ 8 ∷ 8 ∷ 8 ∷ [])
unfolding digits
at0 = refl

-- at a second point
at1 : answers (design_of pal16l8 source) (point 749500 32 0) 0
    ≡ (6 ∷ 6 ∷ 8 ∷ 8 ∷ 8 ∷ 8 ∷ 8 ∷ 8 ∷ 2 ∷ 2 ∷ 2 ∷ 0 ∷ 0 ∷ [])
unfolding digits
at1 = refl

-- at a third
at2 : answers (design_of pal16l8 source) (point 1279614 159 0) 0
    ≡ (6 ∷ 6 ∷ 8 ∷ 8 ∷ 8 ∷ 8 ∷ 8 ∷ 8 ∷ 2 ∷ 2 ∷ 2 ∷ 0 ∷ 0 ∷ [])
unfolding digits
at2 = refl

-- which signals each one reads, and which its reset reads
reads : all_reads (design_of pal16l8 source)
    ≡ (([]) ∷ ([]) ∷ ([]) ∷ ([]) ∷ ([]) ∷ ([]) ∷ ([]) ∷ ([]) ∷ ([]) ∷ ([]) ∷ [])
unfolding digits make_not make_and make_or make_xor
reads = refl

-- the folded formulas, as numbers
trees : all_trees (design_of pal16l8 source)
    ≡ (([]) ∷ ([]) ∷ ([]) ∷ (117 ∷ 0 ∷ 0 ∷ 0 ∷ 0 ∷ 0 ∷ []) ∷ (138 ∷ 0 ∷ 0 ∷ 0 ∷ 0 ∷ 0 ∷ []) ∷ [])
unfolding digits make_not make_and make_or make_xor
trees = refl

-- the nodes of each unit
units : units_of (design_of pal16l8 source)
    ≡ (2 ∷ 2 ∷ [])
unfolding digits make_not make_and make_or make_xor
units = refl
