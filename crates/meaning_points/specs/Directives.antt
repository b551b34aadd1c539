-- Directives, and what a second implementation of the language says of it.
-- module directives
-- d device 'GAL22V10';
-- clk,a,b pin 1,2,3; y0,y1,y2,y3,y4 pin 14..18; q0,q1,q2 pin 19,20,21 istype 'reg'; n0,n1 node;
-- @DCSET
-- truth_table (a -> y0) 1 -> 1;
-- equations
-- when a then { @ONSET n0 = b; } else @DCSET
-- truth_table (a -> y1) 1 -> 1;
-- equations
-- when a then n0 = b; else { n0 = a; @ONSET }
-- truth_table (b -> y2) 1 -> 1;
-- state_diagram q0
-- state 0: @DCSET goto 1;
-- truth_table (b -> y3) 1 -> 1;
-- state_diagram q1
-- state 0: if a then 1 with { @ONSET } else 0;
-- state 1: case a : 1 with { @DCSET }; endcase
-- truth_table (b -> y4) 1 -> 1;
-- state_diagram q2
-- state 0: if a then 1 else 1 with { @ONSET };
-- declarations
-- z pin 22; x9 node;
-- @ONSET
-- truth_table (b -> z) 1 -> 1;
-- declarations
-- @DCSET w pin 23;
-- truth_table (b -> n1) 1 -> 1;
-- state_diagram w
-- state 1: if a then 0 else case b : if a then 1 else 0 with { @ONSET }; endcase
-- truth_table ([a,b] -> x9) 1 -> 1;
-- end
use Rattle.std.specs.Prelude.{◌≡◌, [], ◌∷◌, codes}
use Rattle.meaning_points.specs.Prelude.{digits, make_not, make_and, make_or, make_xor, ModuleTree, Declarations, Equations, design_of, source_logic, units_of, gal22v10}
use Rattle.std.proofs.Common.{refl}
use Rattle.meaning_points.specs.Answers.{all_reads, all_trees, answers, logic_answers, name_codes, point}
use Rattle.meaning_points.specs.Constructs.{module_of, assign, case_of, choice, dc_set, dc_set_for, device, diagram, goto, goto_with, group, if_else, item, nodes, on_set, on_set_for, pin, pins, pins_to, row, state, table, when_else}
use Rattle.meaning_points.specs.Trees.{name, number, one, set, word}

-- the module as a tree
abbrev source : ModuleTree
source =
    module_of (codes "directives")
    (device "d" "'GAL22V10'"
    ∷ pins (item "clk" ∷ item "a" ∷ item "b" ∷ []) (pin 1 ∷ pin 2 ∷ pin 3 ∷ []) []
    ∷ pins (item "y0" ∷ item "y1" ∷ item "y2" ∷ item "y3" ∷ item "y4" ∷ []) (pins_to 14 18 ∷ []) []
    ∷ pins (item "q0" ∷ item "q1" ∷ item "q2" ∷ []) (pin 19 ∷ pin 20 ∷ pin 21 ∷ []) (word "'reg'" ∷ [])
    ∷ nodes (item "n0" ∷ item "n1" ∷ []) []
    ∷ dc_set_for
    ∷ [])
    (table (name "a") (name "y0") (row (number 1) (number 1) ∷ [])
    ∷ Equations (when_else (name "a") (group (on_set ∷ assign (name "n0") (name "b") ∷ [])) dc_set ∷ [])
    ∷ table (name "a") (name "y1") (row (number 1) (number 1) ∷ [])
    ∷ Equations
    (when_else (name "a") (assign (name "n0") (name "b"))
    (group (assign (name "n0") (name "a") ∷ on_set ∷ []))
    ∷ [])
    ∷ table (name "b") (name "y2") (row (number 1) (number 1) ∷ [])
    ∷ diagram (name "q0") (state (number 0) (dc_set ∷ []) (goto (number 1) ∷ []) ∷ [])
    ∷ table (name "b") (name "y3") (row (number 1) (number 1) ∷ [])
    ∷ diagram (name "q1")
    (state (number 0) []
    (if_else (name "a") (goto_with (number 1) (on_set ∷ [])) (goto (number 0)) ∷ [])
    ∷ state (number 1) []
    (case_of (choice (name "a") (goto_with (number 1) (dc_set ∷ [])) ∷ []) ∷ [])
    ∷ [])
    ∷ table (name "b") (name "y4") (row (number 1) (number 1) ∷ [])
    ∷ diagram (name "q2")
    (state (number 0) []
    (if_else (name "a") (goto (number 1)) (goto_with (number 1) (on_set ∷ [])) ∷ [])
    ∷ [])
    ∷ Declarations (pins (item "z" ∷ []) (pin 22 ∷ []) [] ∷ nodes (item "x9" ∷ []) [] ∷ on_set_for ∷ [])
    ∷ table (name "b") (name "z") (row (number 1) (number 1) ∷ [])
    ∷ Declarations (dc_set_for ∷ pins (item "w" ∷ []) (pin 23 ∷ []) [] ∷ [])
    ∷ table (name "b") (name "n1") (row (number 1) (number 1) ∷ [])
    ∷ diagram (name "w")
    (state (number 1) []
    (if_else (name "a") (goto (number 0))
    (case_of
    (choice (name "b")
    (if_else (name "a") (goto (number 1)) (goto_with (number 0) (on_set ∷ [])))
    ∷ []))
    ∷ [])
    ∷ [])
    ∷ table (set (one (name "a") ∷ one (name "b") ∷ [])) (name "x9") (row (number 1) (number 1) ∷ [])
    ∷ [])

-- what each name is
names : name_codes (design_of gal22v10 source).context
    ≡ (48000 ∷ 32 ∷ 64 ∷ 96 ∷ 456 ∷ 488 ∷ 520 ∷ 552 ∷ 584 ∷ 619 ∷ 651 ∷ 683 ∷ 16008 ∷ 16024 ∷ 712 ∷ 16040
    ∷ 747 ∷ [])
unfolding digits
names = refl

-- at a point, by the logic itself
at0 : logic_answers (source_logic gal22v10 source) (point 27071958 299 6) 3
    ≡ (75 ∷ 6 ∷ 135 ∷ 139 ∷ 135 ∷ 14 ∷ 14 ∷ 6 ∷ 10 ∷ 10 ∷ 3 ∷ 7 ∷ 3 ∷ [])
unfolding digits
at0 = refl

-- at a second point
at1 : answers (design_of gal22v10 source) (point 32070740 765 2) 3
    ≡ (75 ∷ 6 ∷ 203 ∷ 139 ∷ 75 ∷ 14 ∷ 14 ∷ 6 ∷ 10 ∷ 10 ∷ 3 ∷ 7 ∷ 3 ∷ 2 ∷ 2 ∷ 2 ∷ 2 ∷ 1 ∷ 1 ∷ 0 ∷ 0 ∷ 0 ∷ 0
    ∷ 1 ∷ 0 ∷ 0 ∷ 0 ∷ 0 ∷ 0 ∷ 0 ∷ [])
unfolding digits
at1 = refl

-- at a third
at2 : answers (design_of gal22v10 source) (point 4310580 992 2) 3
    ≡ (199 ∷ 6 ∷ 135 ∷ 135 ∷ 135 ∷ 14 ∷ 14 ∷ 6 ∷ 10 ∷ 10 ∷ 3 ∷ 7 ∷ 3 ∷ 2 ∷ 2 ∷ 2 ∷ 2 ∷ 1 ∷ 1 ∷ 0 ∷ 0 ∷ 0 ∷ 1
    ∷ 1 ∷ 1 ∷ 0 ∷ 0 ∷ 0 ∷ 0 ∷ 0 ∷ [])
unfolding digits
at2 = refl

-- which signals each one reads, and which its reset reads
reads : all_reads (design_of gal22v10 source)
    ≡ (([]) ∷ ([]) ∷ ([]) ∷ ([]) ∷ ([]) ∷ ([]) ∷ ([]) ∷ ([]) ∷ ([]) ∷ ([]) ∷ ([]) ∷ ([]) ∷ ([]) ∷ ([]) ∷ ([])
    ∷ ([]) ∷ ([]) ∷ ([]) ∷ ([]) ∷ ([]) ∷ ([]) ∷ ([]) ∷ ([]) ∷ ([]) ∷ ([]) ∷ ([]) ∷ ([]) ∷ ([]) ∷ ([])
    ∷ ([]) ∷ ([]) ∷ ([]) ∷ ([]) ∷ ([]) ∷ [])
unfolding digits make_not make_and make_or make_xor
reads = refl

-- the folded formulas, as numbers
trees : all_trees (design_of gal22v10 source)
    ≡ (([]) ∷ ([]) ∷ ([]) ∷ ([]) ∷ (16 ∷ 117 ∷ 0 ∷ 0 ∷ 0 ∷ 0 ∷ []) ∷ (16 ∷ 117 ∷ 0 ∷ 0 ∷ 0 ∷ 0 ∷ []) ∷ (19
    ∷ 0 ∷ 0 ∷ 0 ∷ 0 ∷ 0 ∷ []) ∷ (19 ∷ 138 ∷ 0 ∷ 0 ∷ 0 ∷ 0 ∷ []) ∷ (19 ∷ 138 ∷ 0 ∷ 0 ∷ 0 ∷ 0 ∷ []) ∷ (166
    ∷ 0 ∷ 0 ∷ 0 ∷ 0 ∷ 0 ∷ []) ∷ (65630 ∷ 280517 ∷ 0 ∷ 0 ∷ 0 ∷ 0 ∷ []) ∷ (148352 ∷ 38466 ∷ 0 ∷ 0 ∷ 0 ∷ 0
    ∷ []) ∷ (701004 ∷ 0 ∷ 0 ∷ 0 ∷ 0 ∷ 0 ∷ []) ∷ (19 ∷ 138 ∷ 0 ∷ 0 ∷ 0 ∷ 0 ∷ []) ∷ (19 ∷ 0 ∷ 0 ∷ 0 ∷ 0 ∷ 0
    ∷ []) ∷ (1855 ∷ 0 ∷ 0 ∷ 0 ∷ 0 ∷ 0 ∷ []) ∷ (366792 ∷ 934486 ∷ 0 ∷ 0 ∷ 0 ∷ 0 ∷ []) ∷ [])
unfolding digits make_not make_and make_or make_xor
trees = refl

-- the nodes of each unit
units : units_of (design_of gal22v10 source)
    ≡ (1 ∷ 2 ∷ 2 ∷ 1 ∷ 2 ∷ 2 ∷ 2 ∷ 1 ∷ 2 ∷ 0 ∷ 1 ∷ 2 ∷ 4 ∷ 0 ∷ 0 ∷ 1 ∷ 2 ∷ 0 ∷ 1 ∷ 2 ∷ 4 ∷ 0 ∷ 0 ∷ 1 ∷ 1 ∷ 1
    ∷ 4 ∷ 0 ∷ 2 ∷ 4 ∷ 0 ∷ 0 ∷ 4 ∷ [])
unfolding digits make_not make_and make_or make_xor
units = refl
