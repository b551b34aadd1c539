-- Attributes, and what a second implementation of the language says of it.
-- module attributes
-- d device 'P22V10';
-- options 'x'; flag 'y';
-- !a,b pin 2..3; p0..p3 pin 23..20 istype 'REG , Buffer'; q3..q2 pin 19,18;
-- x9..x10 pin 4,5; n9..n11 node istype 'keep'; m node;
-- q2 istype 'com DC,';
-- t,u pin 17,16 istype 'pos','invert dc';
-- declarations
-- q3 istype 'retain', 'reg';
-- c1,c2 = [p0..p3],(5);
-- equations
-- c1 := c2 + [a,b,x9,x10]; q3 := n10; q2 ?= m; n10 = a & x9; n9 = n11; t.D = a; u := p1 # t.Q; n11 = 1;
-- declarations
-- late pin 15; kk = late;
-- equations
-- kk = !late & 0 # b;
-- end
use Rattle.std.specs.Prelude.{◌≡◌, [], ◌∷◌, codes}
use Rattle.meaning_points.specs.Prelude.{digits, make_not, make_and, make_or, make_xor, ModuleTree, Declarations, Equations, design_of, source_logic, units_of, gal22v10}
use Rattle.std.proofs.Common.{refl}
use Rattle.abel_tree.specs.declared.words.Extension.TheVariants as extension
use Rattle.meaning_points.specs.Answers.{all_reads, all_trees, answers, logic_answers, name_codes, point}
use Rattle.meaning_points.specs.Constructs.{module_of, assign, assign_any, clocked, constants, device, istype, item, items, low_item, nodes, options, pin, pins, pins_to}
use Rattle.meaning_points.specs.Trees.{both, coded, complement, dotted, either, name, number, one, paren, plus, set, span, word}

-- the module as a tree
abbrev source : ModuleTree
source =
    module_of (codes "attributes")
    (device "d" "'P22V10'"
    ∷ options
    ∷ options
    ∷ pins (low_item "a" ∷ item "b" ∷ []) (pins_to 2 3 ∷ []) []
    ∷ pins (items "p0" "p3" ∷ []) (pins_to 23 20 ∷ []) (word "'REG , Buffer'" ∷ [])
    ∷ pins (items "q3" "q2" ∷ []) (pin 19 ∷ pin 18 ∷ []) []
    ∷ pins (items "x9" "x10" ∷ []) (pin 4 ∷ pin 5 ∷ []) []
    ∷ nodes (items "n9" "n11" ∷ []) (word "'keep'" ∷ [])
    ∷ nodes (item "m" ∷ []) []
    ∷ istype (item "q2" ∷ []) (coded (39 ∷ 99 ∷ 111 ∷ 109 ∷ 9 ∷ 68 ∷ 67 ∷ 44 ∷ 39 ∷ []) ∷ [])
    ∷ pins (item "t" ∷ item "u" ∷ []) (pin 17 ∷ pin 16 ∷ []) (word "'pos'" ∷ word "'invert dc'" ∷ [])
    ∷ [])
    (Declarations
    (istype (item "q3" ∷ []) (word "'retain'" ∷ word "'reg'" ∷ [])
    ∷ constants (word "c1" ∷ word "c2" ∷ []) (set (span "p0" "p3" ∷ []) ∷ paren (number 5) ∷ [])
    ∷ [])
    ∷ Equations
    (clocked (name "c1")
    (plus (name "c2")
    (set (one (name "a") ∷ one (name "b") ∷ one (name "x9") ∷ one (name "x10") ∷ [])))
    ∷ clocked (name "q3") (name "n10")
    ∷ assign_any (name "q2") (name "m")
    ∷ assign (name "n10") (both (name "a") (name "x9"))
    ∷ assign (name "n9") (name "n11")
    ∷ assign (dotted "t" extension.D) (name "a")
    ∷ clocked (name "u") (either (name "p1") (dotted "t" extension.Q))
    ∷ assign (name "n11") (number 1)
    ∷ [])
    ∷ Declarations
    (pins (item "late" ∷ []) (pin 15 ∷ []) [] ∷ constants (word "kk" ∷ []) (name "late" ∷ []) ∷ [])
    ∷ Equations (assign (name "kk") (either (both (complement (name "late")) (number 0)) (name "b")) ∷ [])
    ∷ [])

-- what each name is
names : name_codes (design_of gal22v10 source).context
    ≡ (48000 ∷ 80 ∷ 96 ∷ 747 ∷ 715 ∷ 683 ∷ 651 ∷ 619 ∷ 588 ∷ 128 ∷ 160 ∷ 16008 ∷ 16024 ∷ 16040 ∷ 16048 ∷ 557
    ∷ 525 ∷ 32000 ∷ 32000 ∷ 488 ∷ 32000 ∷ [])
unfolding digits
names = refl

-- at a point, by the logic itself
at0 : logic_answers (source_logic gal22v10 source) (point 13878118 629 13) 4
    ≡ (75 ∷ 135 ∷ 139 ∷ 71 ∷ 75 ∷ 14 ∷ 71 ∷ 75 ∷ 6 ∷ 8 ∷ 5 ∷ 3 ∷ 5 ∷ 3 ∷ [])
unfolding digits
at0 = refl

-- at a second point
at1 : answers (design_of gal22v10 source) (point 22822116 430 1) 4
    ≡ (71 ∷ 139 ∷ 139 ∷ 75 ∷ 71 ∷ 6 ∷ 75 ∷ 71 ∷ 6 ∷ 8 ∷ 3 ∷ 3 ∷ 5 ∷ 3 ∷ 2 ∷ 2 ∷ 2 ∷ 0 ∷ 1 ∷ 1 ∷ 0 ∷ 0 ∷ 0 ∷ 2
    ∷ 2 ∷ 0 ∷ 0 ∷ 1 ∷ 2 ∷ 0 ∷ 1 ∷ 2 ∷ 2 ∷ 0 ∷ 2 ∷ [])
unfolding digits
at1 = refl

-- at a third
at2 : answers (design_of gal22v10 source) (point 21363962 670 13) 4
    ≡ (71 ∷ 139 ∷ 75 ∷ 75 ∷ 75 ∷ 14 ∷ 139 ∷ 71 ∷ 10 ∷ 8 ∷ 5 ∷ 5 ∷ 5 ∷ 3 ∷ 2 ∷ 2 ∷ 2 ∷ 0 ∷ 1 ∷ 0 ∷ 0 ∷ 0 ∷ 0
    ∷ 2 ∷ 2 ∷ 1 ∷ 1 ∷ 1 ∷ 2 ∷ 1 ∷ 1 ∷ 2 ∷ 2 ∷ 1 ∷ 2 ∷ [])
unfolding digits
at2 = refl

-- which signals each one reads, and which its reset reads
reads : all_reads (design_of gal22v10 source)
    ≡ (([]) ∷ ([]) ∷ ([]) ∷ ([]) ∷ ([]) ∷ ([]) ∷ ([]) ∷ ([]) ∷ (14 ∷ []) ∷ ([]) ∷ ([]) ∷ (13 ∷ []) ∷ ([])
    ∷ ([]) ∷ ([]) ∷ ([]) ∷ ([]) ∷ ([]) ∷ ([]) ∷ ([]) ∷ ([]) ∷ ([]) ∷ ([]) ∷ ([]) ∷ ([]) ∷ ([]) ∷ ([])
    ∷ ([]) ∷ ([]) ∷ ([]) ∷ ([]) ∷ ([]) ∷ ([]) ∷ ([]) ∷ ([]) ∷ ([]) ∷ ([]) ∷ ([]) ∷ ([]) ∷ ([]) ∷ ([])
    ∷ ([]) ∷ [])
unfolding digits make_not make_and make_or make_xor
reads = refl

-- the folded formulas, as numbers
trees : all_trees (design_of gal22v10 source)
    ≡ (([]) ∷ ([]) ∷ ([]) ∷ (881514 ∷ 0 ∷ 0 ∷ 0 ∷ 0 ∷ 0 ∷ []) ∷ (34739 ∷ 0 ∷ 0 ∷ 0 ∷ 0 ∷ 0 ∷ []) ∷ (1870 ∷ 0
    ∷ 0 ∷ 0 ∷ 0 ∷ 0 ∷ []) ∷ (180 ∷ 0 ∷ 0 ∷ 0 ∷ 0 ∷ 0 ∷ []) ∷ (15 ∷ 0 ∷ 0 ∷ 0 ∷ 0 ∷ 0 ∷ []) ∷ (0 ∷ 21 ∷ 0
    ∷ 0 ∷ 0 ∷ 0 ∷ []) ∷ ([]) ∷ ([]) ∷ (18 ∷ 0 ∷ 0 ∷ 0 ∷ 0 ∷ 0 ∷ []) ∷ (1906 ∷ 0 ∷ 0 ∷ 0 ∷ 0 ∷ 0 ∷ []) ∷ (1
    ∷ 0 ∷ 0 ∷ 0 ∷ 0 ∷ 0 ∷ []) ∷ ([]) ∷ (117 ∷ 0 ∷ 0 ∷ 0 ∷ 0 ∷ 0 ∷ []) ∷ (1182 ∷ 0 ∷ 0 ∷ 0 ∷ 0 ∷ 0 ∷ [])
    ∷ ([]) ∷ ([]) ∷ (19 ∷ 0 ∷ 0 ∷ 0 ∷ 0 ∷ 0 ∷ []) ∷ ([]) ∷ [])
unfolding digits make_not make_and make_or make_xor
trees = refl

-- the nodes of each unit
units : units_of (design_of gal22v10 source)
    ≡ (12 ∷ 1 ∷ 1 ∷ 4 ∷ 1 ∷ 2 ∷ 3 ∷ 0 ∷ 3 ∷ [])
unfolding digits make_not make_and make_or make_xor
units = refl
