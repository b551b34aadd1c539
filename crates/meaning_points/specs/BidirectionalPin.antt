-- Bidirectional pin, and what a second implementation of the language says of it.
-- module bidirectional_pin
-- u device 'P16L8';
-- rd,x pin 1,2; D0 pin 18; Z pin 19;
-- equations
-- D0 = x; D0.OE = rd; Z = D0;
-- end
use Rattle.std.specs.Prelude.{◌≡◌, [], ◌∷◌, codes}
use Rattle.meaning_points.specs.Prelude.{digits, make_not, make_and, make_or, make_xor, ModuleTree, Equations, design_of, source_logic, units_of, pal16l8}
use Rattle.std.proofs.Common.{refl}
use Rattle.abel_tree.specs.declared.words.Extension.TheVariants as extension
use Rattle.meaning_points.specs.Answers.{all_reads, all_trees, answers, logic_answers, name_codes, point}
use Rattle.meaning_points.specs.Constructs.{module_of, assign, device, item, pin, pins}
use Rattle.meaning_points.specs.Trees.{dotted, name}

-- the module as a tree
abbrev source : ModuleTree
source =
    module_of (codes "bidirectional_pin")
    (device "u" "'P16L8'"
    ∷ pins (item "rd" ∷ item "x" ∷ []) (pin 1 ∷ pin 2 ∷ []) []
    ∷ pins (item "D0" ∷ []) (pin 18 ∷ []) []
    ∷ pins (item "Z" ∷ []) (pin 19 ∷ []) []
    ∷ [])
    (Equations
    (assign (name "D0") (name "x")
    ∷ assign (dotted "D0" extension.Oe) (name "rd")
    ∷ assign (name "Z") (name "D0")
    ∷ [])
    ∷ [])

-- what each name is
names : name_codes (design_of pal16l8 source).context
    ≡ (48000 ∷ 32 ∷ 64 ∷ 584 ∷ 616 ∷ [])
unfolding digits
names = refl

-- at a point, by the logic itself
at0 : logic_answers (source_logic pal16l8 source) (point 1270930 193 0) 0
    ≡ (6 ∷ 6 ∷ 8 ∷ 8 ∷ 8 ∷ 8 ∷ 8 ∷ 8 ∷ [])
unfolding digits
at0 = refl

-- at a second point
at1 : answers (design_of pal16l8 source) (point 1806372 98 0) 0
    ≡ (6 ∷ 8 ∷ 8 ∷ 8 ∷ 8 ∷ 8 ∷ 8 ∷ 8 ∷ 2 ∷ 2 ∷ 2 ∷ 1 ∷ 0 ∷ [])
unfolding digits
at1 = refl

-- at a third
at2 : answers (design_of pal16l8 source) (point 366252 62 0) 0
    ≡ (10 ∷ 8 ∷ 8 ∷ 8 ∷ 8 ∷ 8 ∷ 8 ∷ 8 ∷ 2 ∷ 2 ∷ 2 ∷ 1 ∷ 1 ∷ [])
unfolding digits
at2 = refl

-- which signals each one reads, and which its reset reads
reads : all_reads (design_of pal16l8 source)
    ≡ (([]) ∷ ([]) ∷ ([]) ∷ ([]) ∷ (3 ∷ []) ∷ ([]) ∷ ([]) ∷ ([]) ∷ ([]) ∷ ([]) ∷ [])
unfolding digits make_not make_and make_or make_xor
reads = refl

-- the folded formulas, as numbers
trees : all_trees (design_of pal16l8 source)
    ≡ (([]) ∷ ([]) ∷ ([]) ∷ (16 ∷ 0 ∷ 0 ∷ 14 ∷ 0 ∷ 0 ∷ []) ∷ (64 ∷ 0 ∷ 0 ∷ 0 ∷ 0 ∷ 0 ∷ []) ∷ [])
unfolding digits make_not make_and make_or make_xor
trees = refl

-- the nodes of each unit
units : units_of (design_of pal16l8 source)
    ≡ (1 ∷ 1 ∷ 1 ∷ [])
unfolding digits make_not make_and make_or make_xor
units = refl
