-- Extensions, and what a second implementation of the language says of it.
-- module extensions
-- d device 'GAL22V10';
-- clk,a,b,c pin 1,2,3,4; q0,q1,q2,q3 pin 23..20 istype 'reg'; !r0,r1 pin 19,18 istype 'reg_d,invert'; y0,!y1 pin 17,16; n0,n1 node;
-- K = [q0,r0]; L = [q1.Q,r1]; S = [q2,q3];
-- equations
-- S := K.Q & [a,b]; K.D = L.FB $ [a,b]; !q1.D ?= a; !q1.D := b & r0; r1 := y0.PIN # y1 # n0;
-- n0 = a & r0.FB; !n1 = y1; !n1 ?= n0; !y0 = n1; y1 = q0 $ a; y1 ?= c; y0.OE = a; !y1.OE = b;
-- q0.AR = a & b; q0.AR = 0; !r1.SP = c; q0.CLK = clk; [q2,q3].OE = [a,b]; r0.OE = c & a;
-- end
use Rattle.std.specs.Prelude.{◌≡◌, [], ◌∷◌, codes}
use Rattle.meaning_points.specs.Prelude.{digits, make_not, make_and, make_or, make_xor, ModuleTree, Equations, design_of, source_logic, units_of, gal22v10}
use Rattle.std.proofs.Common.{refl}
use Rattle.abel_tree.specs.declared.words.Extension.TheVariants as extension
use Rattle.meaning_points.specs.Answers.{all_reads, all_trees, answers, logic_answers, name_codes, point}
use Rattle.meaning_points.specs.Constructs.{module_of, assign, assign_any, clocked, constants, device, item, low_item, nodes, not_assign, not_assign_any, not_clocked, pin, pins, pins_to}
use Rattle.meaning_points.specs.Trees.{both, differ, dotted, dotted_set, either, name, number, one, set, word}

-- the module as a tree
abbrev source : ModuleTree
source =
    module_of (codes "extensions")
    (device "d" "'GAL22V10'"
    ∷ pins (item "clk" ∷ item "a" ∷ item "b" ∷ item "c" ∷ []) (pin 1 ∷ pin 2 ∷ pin 3 ∷ pin 4 ∷ []) []
    ∷ pins (item "q0" ∷ item "q1" ∷ item "q2" ∷ item "q3" ∷ []) (pins_to 23 20 ∷ []) (word "'reg'" ∷ [])
    ∷ pins (low_item "r0" ∷ item "r1" ∷ []) (pin 19 ∷ pin 18 ∷ []) (word "'reg_d,invert'" ∷ [])
    ∷ pins (item "y0" ∷ low_item "y1" ∷ []) (pin 17 ∷ pin 16 ∷ []) []
    ∷ nodes (item "n0" ∷ item "n1" ∷ []) []
    ∷ constants (word "K" ∷ []) (set (one (name "q0") ∷ one (name "r0") ∷ []) ∷ [])
    ∷ constants (word "L" ∷ []) (set (one (dotted "q1" extension.Q) ∷ one (name "r1") ∷ []) ∷ [])
    ∷ constants (word "S" ∷ []) (set (one (name "q2") ∷ one (name "q3") ∷ []) ∷ [])
    ∷ [])
    (Equations
    (clocked (name "S") (both (dotted "K" extension.Q) (set (one (name "a") ∷ one (name "b") ∷ [])))
    ∷ assign (dotted "K" extension.D)
    (differ (dotted "L" extension.Fb) (set (one (name "a") ∷ one (name "b") ∷ [])))
    ∷ not_assign_any (dotted "q1" extension.D) (name "a")
    ∷ not_clocked (dotted "q1" extension.D) (both (name "b") (name "r0"))
    ∷ clocked (name "r1") (either (either (dotted "y0" extension.Pin) (name "y1")) (name "n0"))
    ∷ assign (name "n0") (both (name "a") (dotted "r0" extension.Fb))
    ∷ not_assign (name "n1") (name "y1")
    ∷ not_assign_any (name "n1") (name "n0")
    ∷ not_assign (name "y0") (name "n1")
    ∷ assign (name "y1") (differ (name "q0") (name "a"))
    ∷ assign_any (name "y1") (name "c")
    ∷ assign (dotted "y0" extension.Oe) (name "a")
    ∷ not_assign (dotted "y1" extension.Oe) (name "b")
    ∷ assign (dotted "q0" extension.Ar) (both (name "a") (name "b"))
    ∷ assign (dotted "q0" extension.Ar) (number 0)
    ∷ not_assign (dotted "r1" extension.Sp) (name "c")
    ∷ assign (dotted "q0" extension.Clk) (name "clk")
    ∷ assign (dotted_set (one (name "q2") ∷ one (name "q3") ∷ []) extension.Oe)
    (set (one (name "a") ∷ one (name "b") ∷ []))
    ∷ assign (dotted "r0" extension.Oe) (both (name "c") (name "a"))
    ∷ [])
    ∷ [])

-- what each name is
names : name_codes (design_of gal22v10 source).context
    ≡ (48000 ∷ 32 ∷ 64 ∷ 96 ∷ 128 ∷ 747 ∷ 715 ∷ 683 ∷ 651 ∷ 633 ∷ 585 ∷ 552 ∷ 536 ∷ 16008 ∷ 16024 ∷ 32000
    ∷ 32000 ∷ 32000 ∷ [])
unfolding digits
names = refl

-- at a point, by the logic itself
at0 : logic_answers (source_logic gal22v10 source) (point 10711512 987 0) 2
    ≡ (139 ∷ 75 ∷ 69 ∷ 139 ∷ 69 ∷ 75 ∷ 8 ∷ 4 ∷ 8 ∷ 8 ∷ 3 ∷ 5 ∷ [])
unfolding digits
at0 = refl

-- at a second point
at1 : answers (design_of gal22v10 source) (point 17925374 702 0) 2
    ≡ (87 ∷ 91 ∷ 91 ∷ 155 ∷ 151 ∷ 151 ∷ 26 ∷ 20 ∷ 24 ∷ 24 ∷ 5 ∷ 5 ∷ 2 ∷ 2 ∷ 2 ∷ 2 ∷ 2 ∷ 0 ∷ 0 ∷ 0 ∷ 1 ∷ 1 ∷ 0
    ∷ 1 ∷ 1 ∷ 1 ∷ 1 ∷ 2 ∷ 2 ∷ 2 ∷ [])
unfolding digits
at1 = refl

-- at a third
at2 : answers (design_of gal22v10 source) (point 28907402 163 1) 2
    ≡ (171 ∷ 171 ∷ 101 ∷ 103 ∷ 169 ∷ 103 ∷ 40 ∷ 36 ∷ 40 ∷ 40 ∷ 3 ∷ 7 ∷ 2 ∷ 2 ∷ 2 ∷ 2 ∷ 2 ∷ 1 ∷ 1 ∷ 0 ∷ 0 ∷ 1
    ∷ 1 ∷ 1 ∷ 1 ∷ 0 ∷ 1 ∷ 2 ∷ 2 ∷ 2 ∷ [])
unfolding digits
at2 = refl

-- which signals each one reads, and which its reset reads
reads : all_reads (design_of gal22v10 source)
    ≡ (([]) ∷ ([]) ∷ ([]) ∷ ([]) ∷ ([]) ∷ ([]) ∷ ([]) ∷ ([]) ∷ ([]) ∷ ([]) ∷ ([]) ∷ (14 ∷ []) ∷ (5 ∷ []) ∷ (9
    ∷ []) ∷ (12 ∷ 13 ∷ []) ∷ ([]) ∷ ([]) ∷ ([]) ∷ ([]) ∷ ([]) ∷ ([]) ∷ ([]) ∷ ([]) ∷ ([]) ∷ ([]) ∷ ([])
    ∷ ([]) ∷ ([]) ∷ ([]) ∷ ([]) ∷ ([]) ∷ ([]) ∷ ([]) ∷ ([]) ∷ ([]) ∷ ([]) ∷ [])
unfolding digits make_not make_and make_or make_xor
reads = refl

-- the folded formulas, as numbers
trees : all_trees (design_of gal22v10 source)
    ≡ (([]) ∷ ([]) ∷ ([]) ∷ ([]) ∷ ([]) ∷ (1205 ∷ 0 ∷ 0 ∷ 0 ∷ 543 ∷ 0 ∷ []) ∷ (649 ∷ 16 ∷ 1 ∷ 0 ∷ 0 ∷ 0 ∷ [])
    ∷ (426 ∷ 0 ∷ 0 ∷ 17 ∷ 0 ∷ 0 ∷ []) ∷ (633 ∷ 0 ∷ 0 ∷ 20 ∷ 0 ∷ 0 ∷ []) ∷ (7729 ∷ 0 ∷ 0 ∷ 570 ∷ 0 ∷ 0
    ∷ []) ∷ (307210 ∷ 0 ∷ 0 ∷ 0 ∷ 0 ∷ 160 ∷ []) ∷ (15 ∷ 0 ∷ 1 ∷ 17 ∷ 0 ∷ 0 ∷ []) ∷ (1094 ∷ 22 ∷ 0 ∷ 139
    ∷ 0 ∷ 0 ∷ []) ∷ (610 ∷ 0 ∷ 0 ∷ 0 ∷ 0 ∷ 0 ∷ []) ∷ (411 ∷ 12 ∷ 1 ∷ 0 ∷ 0 ∷ 0 ∷ []) ∷ ([]) ∷ ([]) ∷ ([])
    ∷ [])
unfolding digits make_not make_and make_or make_xor
trees = refl

-- the nodes of each unit
units : units_of (design_of gal22v10 source)
    ≡ (6 ∷ 7 ∷ 1 ∷ 3 ∷ 6 ∷ 3 ∷ 2 ∷ 1 ∷ 1 ∷ 3 ∷ 1 ∷ 1 ∷ 1 ∷ 3 ∷ 0 ∷ 1 ∷ 1 ∷ 2 ∷ 3 ∷ [])
unfolding digits make_not make_and make_or make_xor
units = refl
