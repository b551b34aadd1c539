-- Folded reads, and what a second implementation of the language says of it.
-- module folded_reads
-- d device 'GAL22V10';
-- a,b pin 2,3; Y,Z pin 18,17; q pin 19 istype 'reg'; n0,n1 node;
-- equations
-- Y = 0 & Y; q := a; q.AR = q # 1; Z = 1 & n0 $ 0; Z.OE = b & n1; n0 = a & n1; n1 ?= b # (n1 & 0); Y ?= n0;
-- end
use Rattle.std.specs.Prelude.{◌≡◌, [], ◌∷◌, codes}
use Rattle.meaning_points.specs.Prelude.{digits, make_not, make_and, make_or, make_xor, ModuleTree, Equations, design_of, source_logic, units_of, gal22v10}
use Rattle.std.proofs.Common.{refl}
use Rattle.abel_tree.specs.declared.words.Extension.TheVariants as extension
use Rattle.meaning_points.specs.Answers.{all_reads, all_trees, answers, logic_answers, name_codes, point}
use Rattle.meaning_points.specs.Constructs.{module_of, assign, assign_any, clocked, device, item, nodes, pin, pins}
use Rattle.meaning_points.specs.Trees.{both, differ, dotted, either, name, number, paren, word}

-- the module as a tree
abbrev source : ModuleTree
source =
    module_of (codes "folded_reads")
    (device "d" "'GAL22V10'"
    ∷ pins (item "a" ∷ item "b" ∷ []) (pin 2 ∷ pin 3 ∷ []) []
    ∷ pins (item "Y" ∷ item "Z" ∷ []) (pin 18 ∷ pin 17 ∷ []) []
    ∷ pins (item "q" ∷ []) (pin 19 ∷ []) (word "'reg'" ∷ [])
    ∷ nodes (item "n0" ∷ item "n1" ∷ []) []
    ∷ [])
    (Equations
    (assign (name "Y") (both (number 0) (name "Y"))
    ∷ clocked (name "q") (name "a")
    ∷ assign (dotted "q" extension.Ar) (either (name "q") (number 1))
    ∷ assign (name "Z") (differ (both (number 1) (name "n0")) (number 0))
    ∷ assign (dotted "Z" extension.Oe) (both (name "b") (name "n1"))
    ∷ assign (name "n0") (both (name "a") (name "n1"))
    ∷ assign_any (name "n1") (either (name "b") (paren (both (name "n1") (number 0))))
    ∷ assign_any (name "Y") (name "n0")
    ∷ [])
    ∷ [])

-- what each name is
names : name_codes (design_of gal22v10 source).context
    ≡ (48000 ∷ 64 ∷ 96 ∷ 584 ∷ 552 ∷ 619 ∷ 16008 ∷ 16024 ∷ [])
unfolding digits
names = refl

-- at a point, by the logic itself
at0 : logic_answers (source_logic gal22v10 source) (point 19910590 486 3) 2
    ≡ (24 ∷ 24 ∷ 24 ∷ 24 ∷ 151 ∷ 30 ∷ 26 ∷ 24 ∷ 24 ∷ 24 ∷ 5 ∷ 7 ∷ [])
unfolding digits
at0 = refl

-- at a second point
at1 : answers (design_of gal22v10 source) (point 13945586 913 2) 2
    ≡ (24 ∷ 24 ∷ 24 ∷ 24 ∷ 91 ∷ 22 ∷ 20 ∷ 24 ∷ 24 ∷ 24 ∷ 3 ∷ 3 ∷ 2 ∷ 2 ∷ 2 ∷ 0 ∷ 0 ∷ 0 ∷ 0 ∷ 0 ∷ [])
unfolding digits
at1 = refl

-- at a third
at2 : answers (design_of gal22v10 source) (point 13250600 853 1) 2
    ≡ (24 ∷ 24 ∷ 24 ∷ 24 ∷ 91 ∷ 30 ∷ 24 ∷ 24 ∷ 24 ∷ 24 ∷ 3 ∷ 7 ∷ 2 ∷ 2 ∷ 2 ∷ 0 ∷ 1 ∷ 0 ∷ 0 ∷ 0 ∷ [])
unfolding digits
at2 = refl

-- which signals each one reads, and which its reset reads
reads : all_reads (design_of gal22v10 source)
    ≡ (([]) ∷ ([]) ∷ ([]) ∷ (6 ∷ []) ∷ (6 ∷ 7 ∷ []) ∷ ([]) ∷ (7 ∷ []) ∷ ([]) ∷ ([]) ∷ ([]) ∷ ([]) ∷ ([])
    ∷ ([]) ∷ ([]) ∷ ([]) ∷ ([]) ∷ [])
unfolding digits make_not make_and make_or make_xor
reads = refl

-- the folded formulas, as numbers
trees : all_trees (design_of gal22v10 source)
    ≡ (([]) ∷ ([]) ∷ ([]) ∷ (0 ∷ 12 ∷ 0 ∷ 0 ∷ 0 ∷ 0 ∷ []) ∷ (12 ∷ 0 ∷ 0 ∷ 514 ∷ 0 ∷ 0 ∷ []) ∷ (16 ∷ 0 ∷ 0 ∷ 0
    ∷ 2 ∷ 0 ∷ []) ∷ (474 ∷ 0 ∷ 0 ∷ 0 ∷ 0 ∷ 0 ∷ []) ∷ (0 ∷ 19 ∷ 0 ∷ 0 ∷ 0 ∷ 0 ∷ []) ∷ [])
unfolding digits make_not make_and make_or make_xor
trees = refl

-- the nodes of each unit
units : units_of (design_of gal22v10 source)
    ≡ (1 ∷ 1 ∷ 1 ∷ 1 ∷ 3 ∷ 3 ∷ 2 ∷ 1 ∷ [])
unfolding digits make_not make_and make_or make_xor
units = refl
