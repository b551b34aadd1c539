-- Node loops, and what a second implementation of the language says of it.
-- module node_loops
-- d device 'GAL22V10';
-- a,b pin 2,3; Y,Z pin 18,17; q pin 19 istype 'reg'; n0,n1 node istype 'dc';
-- equations
-- Y = Z; Y.OE = n0; q := Y; q.SP = q;
-- truth_table ([a,n1] -> n0) [1,.X.] -> 1;
-- truth_table (q -> n1) 1 -> 1;
-- equations
-- Z = a; Z.OE = Y & 0; n1 = Y;
-- end
use Rattle.std.specs.Prelude.{◌≡◌, [], ◌∷◌, codes}
use Rattle.meaning_points.specs.Prelude.{digits, make_not, make_and, make_or, make_xor, ModuleTree, Equations, design_of, source_logic, units_of, gal22v10}
use Rattle.std.proofs.Common.{refl}
use Rattle.abel_tree.specs.declared.words.Extension.TheVariants as extension
use Rattle.meaning_points.specs.Answers.{all_reads, all_trees, answers, logic_answers, name_codes, point}
use Rattle.meaning_points.specs.Constructs.{module_of, assign, clocked, device, item, nodes, pin, pins, row, table}
use Rattle.meaning_points.specs.Trees.{both, dotted, name, number, one, set, unknown, word}

-- the module as a tree
abbrev source : ModuleTree
source =
    module_of (codes "node_loops")
    (device "d" "'GAL22V10'"
    ∷ pins (item "a" ∷ item "b" ∷ []) (pin 2 ∷ pin 3 ∷ []) []
    ∷ pins (item "Y" ∷ item "Z" ∷ []) (pin 18 ∷ pin 17 ∷ []) []
    ∷ pins (item "q" ∷ []) (pin 19 ∷ []) (word "'reg'" ∷ [])
    ∷ nodes (item "n0" ∷ item "n1" ∷ []) (word "'dc'" ∷ [])
    ∷ [])
    (Equations
    (assign (name "Y") (name "Z")
    ∷ assign (dotted "Y" extension.Oe) (name "n0")
    ∷ clocked (name "q") (name "Y")
    ∷ assign (dotted "q" extension.Sp) (name "q")
    ∷ [])
    ∷ table (set (one (name "a") ∷ one (name "n1") ∷ [])) (name "n0")
    (row (set (one (number 1) ∷ one unknown ∷ [])) (number 1) ∷ [])
    ∷ table (name "q") (name "n1") (row (number 1) (number 1) ∷ [])
    ∷ Equations
    (assign (name "Z") (name "a")
    ∷ assign (dotted "Z" extension.Oe) (both (name "Y") (number 0))
    ∷ assign (name "n1") (name "Y")
    ∷ [])
    ∷ [])

-- what each name is
names : name_codes (design_of gal22v10 source).context
    ≡ (48000 ∷ 64 ∷ 96 ∷ 584 ∷ 552 ∷ 619 ∷ 16012 ∷ 16028 ∷ [])
unfolding digits
names = refl

-- at a point, by the logic itself
at0 : logic_answers (source_logic gal22v10 source) (point 904512 132 0) 2
    ≡ (8 ∷ 8 ∷ 8 ∷ 8 ∷ 135 ∷ 4 ∷ 4 ∷ 8 ∷ 8 ∷ 8 ∷ 7 ∷ 5 ∷ [])
unfolding digits
at0 = refl

-- at a second point
at1 : answers (design_of gal22v10 source) (point 435364 1013 3) 2
    ≡ (40 ∷ 40 ∷ 40 ∷ 40 ∷ 171 ∷ 42 ∷ 40 ∷ 40 ∷ 40 ∷ 40 ∷ 5 ∷ 5 ∷ 2 ∷ 2 ∷ 2 ∷ 1 ∷ 1 ∷ 1 ∷ 1 ∷ 1 ∷ [])
unfolding digits
at1 = refl

-- at a third
at2 : answers (design_of gal22v10 source) (point 11494598 858 1) 2
    ≡ (40 ∷ 40 ∷ 40 ∷ 40 ∷ 171 ∷ 42 ∷ 40 ∷ 40 ∷ 40 ∷ 40 ∷ 5 ∷ 5 ∷ 2 ∷ 2 ∷ 2 ∷ 1 ∷ 1 ∷ 1 ∷ 1 ∷ 1 ∷ [])
unfolding digits
at2 = refl

-- which signals each one reads, and which its reset reads
reads : all_reads (design_of gal22v10 source)
    ≡ (([]) ∷ ([]) ∷ ([]) ∷ (4 ∷ 6 ∷ []) ∷ ([]) ∷ ([]) ∷ ([]) ∷ (3 ∷ 5 ∷ []) ∷ ([]) ∷ ([]) ∷ ([]) ∷ ([])
    ∷ ([]) ∷ ([]) ∷ ([]) ∷ ([]) ∷ [])
unfolding digits make_not make_and make_or make_xor
reads = refl

-- the folded formulas, as numbers
trees : all_trees (design_of gal22v10 source)
    ≡ (([]) ∷ ([]) ∷ ([]) ∷ (61 ∷ 0 ∷ 0 ∷ 13 ∷ 0 ∷ 0 ∷ []) ∷ (16 ∷ 0 ∷ 0 ∷ 1 ∷ 0 ∷ 0 ∷ []) ∷ (64 ∷ 0 ∷ 0 ∷ 0
    ∷ 0 ∷ 24 ∷ []) ∷ (16 ∷ 117 ∷ 0 ∷ 0 ∷ 0 ∷ 0 ∷ []) ∷ (2404 ∷ 0 ∷ 0 ∷ 0 ∷ 0 ∷ 0 ∷ []) ∷ [])
unfolding digits make_not make_and make_or make_xor
trees = refl

-- the nodes of each unit
units : units_of (design_of gal22v10 source)
    ≡ (1 ∷ 1 ∷ 1 ∷ 1 ∷ 2 ∷ 1 ∷ 1 ∷ 1 ∷ 1 ∷ [])
unfolding digits make_not make_and make_or make_xor
units = refl
