-- Overlapping rows, and what a second implementation of the language says of it.
-- module overlapping_rows
-- u device 'GAL22V10';
-- a,b pin 2,3; y pin 23; q pin 22 istype 'reg,buffer';
-- truth_table ([a,b] -> y)
-- [1,.X.] -> 1; [.X.,1] -> 0; [0,0] -> .X.;
-- equations
-- q := y;
-- end
use Rattle.std.specs.Prelude.{◌≡◌, [], ◌∷◌, codes}
use Rattle.meaning_points.specs.Prelude.{digits, make_not, make_and, make_or, make_xor, ModuleTree, Equations, design_of, source_logic, units_of, gal22v10}
use Rattle.std.proofs.Common.{refl}
use Rattle.meaning_points.specs.Answers.{all_reads, all_trees, answers, logic_answers, name_codes, point}
use Rattle.meaning_points.specs.Constructs.{module_of, clocked, device, item, pin, pins, row, table}
use Rattle.meaning_points.specs.Trees.{name, number, one, set, unknown, word}

-- the module as a tree
abbrev source : ModuleTree
source =
    module_of (codes "overlapping_rows")
    (device "u" "'GAL22V10'"
    ∷ pins (item "a" ∷ item "b" ∷ []) (pin 2 ∷ pin 3 ∷ []) []
    ∷ pins (item "y" ∷ []) (pin 23 ∷ []) []
    ∷ pins (item "q" ∷ []) (pin 22 ∷ []) (word "'reg,buffer'" ∷ [])
    ∷ [])
    (table (set (one (name "a") ∷ one (name "b") ∷ [])) (name "y")
    (row (set (one (number 1) ∷ one unknown ∷ [])) (number 1)
    ∷ row (set (one unknown ∷ one (number 1) ∷ [])) (number 0)
    ∷ row (set (one (number 0) ∷ one (number 0) ∷ [])) unknown
    ∷ [])
    ∷ Equations (clocked (name "q") (name "y") ∷ [])
    ∷ [])

-- what each name is
names : name_codes (design_of gal22v10 source).context
    ≡ (48000 ∷ 64 ∷ 96 ∷ 744 ∷ 715 ∷ [])
unfolding digits
names = refl

-- at a point, by the logic itself
at0 : logic_answers (source_logic gal22v10 source) (point 26664780 747 0) 0
    ≡ (10 ∷ 139 ∷ 8 ∷ 8 ∷ 8 ∷ 8 ∷ 8 ∷ 8 ∷ 8 ∷ 8 ∷ [])
unfolding digits
at0 = refl

-- at a second point
at1 : answers (design_of gal22v10 source) (point 6634274 310 0) 0
    ≡ (14 ∷ 75 ∷ 8 ∷ 8 ∷ 8 ∷ 8 ∷ 8 ∷ 8 ∷ 8 ∷ 8 ∷ 2 ∷ 2 ∷ 2 ∷ 0 ∷ 0 ∷ [])
unfolding digits
at1 = refl

-- at a third
at2 : answers (design_of gal22v10 source) (point 4537446 835 0) 0
    ≡ (10 ∷ 75 ∷ 8 ∷ 8 ∷ 8 ∷ 8 ∷ 8 ∷ 8 ∷ 8 ∷ 8 ∷ 2 ∷ 2 ∷ 2 ∷ 1 ∷ 0 ∷ [])
unfolding digits
at2 = refl

-- which signals each one reads, and which its reset reads
reads : all_reads (design_of gal22v10 source)
    ≡ (([]) ∷ ([]) ∷ ([]) ∷ ([]) ∷ ([]) ∷ ([]) ∷ ([]) ∷ ([]) ∷ ([]) ∷ ([]) ∷ [])
unfolding digits make_not make_and make_or make_xor
reads = refl

-- the folded formulas, as numbers
trees : all_trees (design_of gal22v10 source)
    ≡ (([]) ∷ ([]) ∷ ([]) ∷ (16 ∷ 3878 ∷ 0 ∷ 0 ∷ 0 ∷ 0 ∷ []) ∷ (79 ∷ 0 ∷ 0 ∷ 0 ∷ 0 ∷ 0 ∷ []) ∷ [])
unfolding digits make_not make_and make_or make_xor
trees = refl

-- the nodes of each unit
units : units_of (design_of gal22v10 source)
    ≡ (2 ∷ 0 ∷ 3 ∷ 1 ∷ [])
unfolding digits make_not make_and make_or make_xor
units = refl
