-- States in a row, and what a second implementation of the language says of it.
-- module states_in_a_row
-- d device 'GAL22V10';
-- clk,a,b pin 1,2,3; q0,q1,!q2 pin 23,22,21 istype 'reg'; r pin 20 istype 'reg,dc'; y pin 19 istype 'dc';
-- state_diagram [q2..q0]
-- state 0: y = a; @DCSET r := b; goto [q2..q0] + 1;
-- state 3 == 3: y ?= b; goto 5 - 2 with { r ?:= a; @ONSET }
-- state 5: if a then 7; if b then 2;
-- truth_table ([a,b] -> y)
-- [1,1] -> 1;
-- equations
-- q0.SP = a; r.AR = b;
-- end
use Rattle.std.specs.Prelude.{◌≡◌, [], ◌∷◌, codes}
use Rattle.meaning_points.specs.Prelude.{digits, make_not, make_and, make_or, make_xor, ModuleTree, Equations, design_of, source_logic, units_of, gal22v10}
use Rattle.std.proofs.Common.{refl}
use Rattle.abel_tree.specs.declared.words.Extension.TheVariants as extension
use Rattle.meaning_points.specs.Answers.{all_reads, all_trees, answers, logic_answers, name_codes, point}
use Rattle.meaning_points.specs.Constructs.{module_of, assign, assign_any, clocked, clocked_any, dc_set, device, diagram, goto, goto_with, if_then, item, low_item, on_set, pin, pins, row, state, table}
use Rattle.meaning_points.specs.Trees.{dotted, equal, minus, name, number, one, plus, set, span, word}

-- the module as a tree
abbrev source : ModuleTree
source =
    module_of (codes "states_in_a_row")
    (device "d" "'GAL22V10'"
    ∷ pins (item "clk" ∷ item "a" ∷ item "b" ∷ []) (pin 1 ∷ pin 2 ∷ pin 3 ∷ []) []
    ∷ pins (item "q0" ∷ item "q1" ∷ low_item "q2" ∷ []) (pin 23 ∷ pin 22 ∷ pin 21 ∷ []) (word "'reg'" ∷ [])
    ∷ pins (item "r" ∷ []) (pin 20 ∷ []) (word "'reg,dc'" ∷ [])
    ∷ pins (item "y" ∷ []) (pin 19 ∷ []) (word "'dc'" ∷ [])
    ∷ [])
    (diagram (set (span "q2" "q0" ∷ []))
    (state (number 0)
    (assign (name "y") (name "a") ∷ dc_set ∷ clocked (name "r") (name "b") ∷ [])
    (goto (plus (set (span "q2" "q0" ∷ [])) (number 1)) ∷ [])
    ∷ state (equal (number 3) (number 3)) (assign_any (name "y") (name "b") ∷ [])
    (goto_with (minus (number 5) (number 2)) (clocked_any (name "r") (name "a") ∷ on_set ∷ [])
    ∷ [])
    ∷ state (number 5) []
    (if_then (name "a") (goto (number 7)) ∷ if_then (name "b") (goto (number 2)) ∷ [])
    ∷ [])
    ∷ table (set (one (name "a") ∷ one (name "b") ∷ [])) (name "y")
    (row (set (one (number 1) ∷ one (number 1) ∷ [])) (number 1) ∷ [])
    ∷ Equations
    (assign (dotted "q0" extension.Sp) (name "a") ∷ assign (dotted "r" extension.Ar) (name "b") ∷ [])
    ∷ [])

-- what each name is
names : name_codes (design_of gal22v10 source).context
    ≡ (48000 ∷ 32 ∷ 64 ∷ 96 ∷ 747 ∷ 715 ∷ 699 ∷ 655 ∷ 620 ∷ [])
unfolding digits
names = refl

-- at a point, by the logic itself
at0 : logic_answers (source_logic gal22v10 source) (point 26419404 449 0) 0
    ≡ (187 ∷ 183 ∷ 119 ∷ 119 ∷ 58 ∷ 56 ∷ 56 ∷ 56 ∷ 56 ∷ 56 ∷ [])
unfolding digits
at0 = refl

-- at a second point
at1 : answers (design_of gal22v10 source) (point 33480802 661 0) 0
    ≡ (139 ∷ 135 ∷ 139 ∷ 71 ∷ 6 ∷ 8 ∷ 8 ∷ 8 ∷ 8 ∷ 8 ∷ 2 ∷ 2 ∷ 2 ∷ 2 ∷ 1 ∷ 1 ∷ 0 ∷ 0 ∷ 0 ∷ [])
unfolding digits
at1 = refl

-- at a third
at2 : answers (design_of gal22v10 source) (point 32382640 648 0) 0
    ≡ (71 ∷ 71 ∷ 135 ∷ 203 ∷ 14 ∷ 8 ∷ 8 ∷ 8 ∷ 8 ∷ 8 ∷ 2 ∷ 2 ∷ 2 ∷ 2 ∷ 0 ∷ 0 ∷ 0 ∷ 0 ∷ 0 ∷ [])
unfolding digits
at2 = refl

-- which signals each one reads, and which its reset reads
reads : all_reads (design_of gal22v10 source)
    ≡ (([]) ∷ ([]) ∷ ([]) ∷ ([]) ∷ ([]) ∷ ([]) ∷ ([]) ∷ ([]) ∷ (4 ∷ 5 ∷ 6 ∷ []) ∷ ([]) ∷ ([]) ∷ ([]) ∷ ([])
    ∷ ([]) ∷ ([]) ∷ ([]) ∷ ([]) ∷ ([]) ∷ [])
unfolding digits make_not make_and make_or make_xor
reads = refl

-- the folded formulas, as numbers
trees : all_trees (design_of gal22v10 source)
    ≡ (([]) ∷ ([]) ∷ ([]) ∷ ([]) ∷ (632892 ∷ 0 ∷ 0 ∷ 0 ∷ 0 ∷ 17 ∷ []) ∷ (54380 ∷ 0 ∷ 0 ∷ 0 ∷ 0 ∷ 0 ∷ [])
    ∷ (644828 ∷ 0 ∷ 0 ∷ 0 ∷ 0 ∷ 0 ∷ []) ∷ (353726 ∷ 747460 ∷ 0 ∷ 0 ∷ 20 ∷ 0 ∷ []) ∷ (150238 ∷ 364305 ∷ 0
    ∷ 0 ∷ 0 ∷ 0 ∷ []) ∷ [])
unfolding digits make_not make_and make_or make_xor
trees = refl

-- the nodes of each unit
units : units_of (design_of gal22v10 source)
    ≡ (8 ∷ 2 ∷ 2 ∷ 11 ∷ 7 ∷ 2 ∷ 0 ∷ 2 ∷ 7 ∷ 2 ∷ 0 ∷ 2 ∷ 0 ∷ 3 ∷ 1 ∷ 1 ∷ [])
unfolding digits make_not make_and make_or make_xor
units = refl
