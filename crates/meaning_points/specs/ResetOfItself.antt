-- Reset of itself, and what a second implementation of the language says of it.
-- module reset_of_itself
-- d device 'GAL22V10';
-- rst,a pin 2,3; q0 pin 23 istype 'reg';
-- equations
-- q0 := a;
-- q0.AR = rst & q0;
-- end
use Rattle.std.specs.Prelude.{◌≡◌, [], ◌∷◌, codes}
use Rattle.meaning_points.specs.Prelude.{digits, make_not, make_and, make_or, make_xor, ModuleTree, Equations, design_of, source_logic, units_of, gal22v10}
use Rattle.std.proofs.Common.{refl}
use Rattle.abel_tree.specs.declared.words.Extension.TheVariants as extension
use Rattle.meaning_points.specs.Answers.{all_reads, all_trees, answers, logic_answers, name_codes, point}
use Rattle.meaning_points.specs.Constructs.{module_of, assign, clocked, device, item, pin, pins}
use Rattle.meaning_points.specs.Trees.{both, dotted, name, word}

-- the module as a tree
abbrev source : ModuleTree
source =
    module_of (codes "reset_of_itself")
    (device "d" "'GAL22V10'"
    ∷ pins (item "rst" ∷ item "a" ∷ []) (pin 2 ∷ pin 3 ∷ []) []
    ∷ pins (item "q0" ∷ []) (pin 23 ∷ []) (word "'reg'" ∷ [])
    ∷ [])
    (Equations
    (clocked (name "q0") (name "a")
    ∷ assign (dotted "q0" extension.Ar) (both (name "rst") (name "q0"))
    ∷ [])
    ∷ [])

-- what each name is
names : name_codes (design_of gal22v10 source).context
    ≡ (48000 ∷ 64 ∷ 96 ∷ 747 ∷ [])
unfolding digits
names = refl

-- at a point, by the logic itself
at0 : logic_answers (source_logic gal22v10 source) (point 5436064 682 0) 0
    ≡ (71 ∷ 8 ∷ 8 ∷ 8 ∷ 8 ∷ 8 ∷ 8 ∷ 8 ∷ 8 ∷ 8 ∷ [])
unfolding digits
at0 = refl

-- at a second point
at1 : answers (design_of gal22v10 source) (point 11183288 473 0) 0
    ≡ (139 ∷ 8 ∷ 8 ∷ 8 ∷ 8 ∷ 8 ∷ 8 ∷ 8 ∷ 8 ∷ 8 ∷ 2 ∷ 2 ∷ 2 ∷ 1 ∷ [])
unfolding digits
at1 = refl

-- at a third
at2 : answers (design_of gal22v10 source) (point 7462144 418 0) 0
    ≡ (71 ∷ 8 ∷ 8 ∷ 8 ∷ 8 ∷ 8 ∷ 8 ∷ 8 ∷ 8 ∷ 8 ∷ 2 ∷ 2 ∷ 2 ∷ 0 ∷ [])
unfolding digits
at2 = refl

-- which signals each one reads, and which its reset reads
reads : all_reads (design_of gal22v10 source)
    ≡ (([]) ∷ ([]) ∷ ([]) ∷ ([]) ∷ ([]) ∷ ([]) ∷ ([]) ∷ (3 ∷ []) ∷ [])
unfolding digits make_not make_and make_or make_xor
reads = refl

-- the folded formulas, as numbers
trees : all_trees (design_of gal22v10 source)
    ≡ (([]) ∷ ([]) ∷ ([]) ∷ (19 ∷ 0 ∷ 0 ∷ 0 ∷ 407 ∷ 0 ∷ []) ∷ [])
unfolding digits make_not make_and make_or make_xor
trees = refl

-- the nodes of each unit
units : units_of (design_of gal22v10 source)
    ≡ (1 ∷ 3 ∷ [])
unfolding digits make_not make_and make_or make_xor
units = refl
