-- State diagrams, and what a second implementation of the language says of it.
-- module state_diagrams
-- d device 'P16R4';
-- clk,oe pin 1,11; a,b,c pin 2,3,4; q0,q1 pin 17,16; !q2 pin 15 istype 'reg,dc'; y0,y1 pin 19,18; n0 node;
-- ss = [q1,q0]; idle = 0; run = ^b10;
-- @DCSET
-- state_diagram ss
-- state idle: y0 = a; n0 = b; if a then run else if b then 1 with y1 = c; @ONSET endwith;
-- state run: case a : idle; b : 3; a & c : if c then 1 else case b : 2; endcase; endcase
-- state 1: y0 = c; goto [a,b] with { y1 = a; n0 = c & b; };
-- state 3:
-- state_diagram q2
-- state 1: goto 0;
-- state [0]: if c then 1; if b then q0 $ a;
-- end
use Rattle.std.specs.Prelude.{◌≡◌, [], ◌∷◌, codes}
use Rattle.meaning_points.specs.Prelude.{digits, make_not, make_and, make_or, make_xor, ModuleTree, design_of, source_logic, units_of, pal16r4}
use Rattle.std.proofs.Common.{refl}
use Rattle.meaning_points.specs.Answers.{all_reads, all_trees, answers, logic_answers, name_codes, point}
use Rattle.meaning_points.specs.Constructs.{module_of, assign, case_of, choice, constants, dc_set_for, device, diagram, goto, goto_with, if_else, if_then, item, low_item, nodes, on_set, pin, pins, state}
use Rattle.meaning_points.specs.Trees.{both, differ, name, number, one, set, word}

-- the module as a tree
abbrev source : ModuleTree
source =
    module_of (codes "state_diagrams")
    (device "d" "'P16R4'"
    ∷ pins (item "clk" ∷ item "oe" ∷ []) (pin 1 ∷ pin 11 ∷ []) []
    ∷ pins (item "a" ∷ item "b" ∷ item "c" ∷ []) (pin 2 ∷ pin 3 ∷ pin 4 ∷ []) []
    ∷ pins (item "q0" ∷ item "q1" ∷ []) (pin 17 ∷ pin 16 ∷ []) []
    ∷ pins (low_item "q2" ∷ []) (pin 15 ∷ []) (word "'reg,dc'" ∷ [])
    ∷ pins (item "y0" ∷ item "y1" ∷ []) (pin 19 ∷ pin 18 ∷ []) []
    ∷ nodes (item "n0" ∷ []) []
    ∷ constants (word "ss" ∷ []) (set (one (name "q1") ∷ one (name "q0") ∷ []) ∷ [])
    ∷ constants (word "idle" ∷ []) (number 0 ∷ [])
    ∷ constants (word "run" ∷ []) (number 2 ∷ [])
    ∷ dc_set_for
    ∷ [])
    (diagram (name "ss")
    (state (name "idle")
    (assign (name "y0") (name "a") ∷ assign (name "n0") (name "b") ∷ [])
    (if_else (name "a") (goto (name "run"))
    (if_then (name "b")
    (goto_with (number 1) (assign (name "y1") (name "c") ∷ on_set ∷ [])))
    ∷ [])
    ∷ state (name "run") []
    (case_of
    (choice (name "a") (goto (name "idle"))
    ∷ choice (name "b") (goto (number 3))
    ∷ choice (both (name "a") (name "c"))
    (if_else (name "c") (goto (number 1))
    (case_of (choice (name "b") (goto (number 2)) ∷ [])))
    ∷ [])
    ∷ [])
    ∷ state (number 1) (assign (name "y0") (name "c") ∷ [])
    (goto_with (set (one (name "a") ∷ one (name "b") ∷ []))
    (assign (name "y1") (name "a")
    ∷ assign (name "n0") (both (name "c") (name "b"))
    ∷ [])
    ∷ [])
    ∷ state (number 3) [] []
    ∷ [])
    ∷ diagram (name "q2")
    (state (number 1) [] (goto (number 0) ∷ [])
    ∷ state (set (one (number 0) ∷ [])) []
    (if_then (name "c") (goto (number 1))
    ∷ if_then (name "b") (goto (differ (name "q0") (name "a")))
    ∷ [])
    ∷ [])
    ∷ [])

-- what each name is
names : name_codes (design_of pal16r4 source).context
    ≡ (48000 ∷ 32 ∷ 352 ∷ 64 ∷ 96 ∷ 128 ∷ 553 ∷ 521 ∷ 509 ∷ 616 ∷ 584 ∷ 16008 ∷ 32000 ∷ 32000 ∷ 32000 ∷ [])
unfolding digits
names = refl

-- at a point, by the logic itself
at0 : logic_answers (source_logic pal16r4 source) (point 188586 203 1) 1
    ≡ (6 ∷ 6 ∷ 75 ∷ 135 ∷ 139 ∷ 75 ∷ 8 ∷ 8 ∷ 3 ∷ [])
unfolding digits
at0 = refl

-- at a second point
at1 : answers (design_of pal16r4 source) (point 1547932 235 0) 1
    ≡ (10 ∷ 10 ∷ 73 ∷ 69 ∷ 137 ∷ 69 ∷ 8 ∷ 8 ∷ 5 ∷ 2 ∷ 2 ∷ 2 ∷ 2 ∷ 2 ∷ 2 ∷ 1 ∷ 1 ∷ 1 ∷ 1 ∷ 1 ∷ 1 ∷ 2 ∷ 2 ∷ 2
    ∷ [])
unfolding digits
at1 = refl

-- at a third
at2 : answers (design_of pal16r4 source) (point 1493318 66 0) 1
    ≡ (6 ∷ 6 ∷ 201 ∷ 201 ∷ 201 ∷ 73 ∷ 8 ∷ 8 ∷ 3 ∷ 2 ∷ 2 ∷ 2 ∷ 2 ∷ 2 ∷ 2 ∷ 0 ∷ 0 ∷ 0 ∷ 0 ∷ 0 ∷ 0 ∷ 2 ∷ 2 ∷ 2
    ∷ [])
unfolding digits
at2 = refl

-- which signals each one reads, and which its reset reads
reads : all_reads (design_of pal16r4 source)
    ≡ (([]) ∷ ([]) ∷ ([]) ∷ ([]) ∷ ([]) ∷ ([]) ∷ ([]) ∷ ([]) ∷ ([]) ∷ (6 ∷ 7 ∷ []) ∷ (6 ∷ 7 ∷ []) ∷ (6 ∷ 7
    ∷ []) ∷ ([]) ∷ ([]) ∷ ([]) ∷ ([]) ∷ ([]) ∷ ([]) ∷ ([]) ∷ ([]) ∷ ([]) ∷ ([]) ∷ ([]) ∷ ([]) ∷ ([])
    ∷ ([]) ∷ ([]) ∷ ([]) ∷ ([]) ∷ ([]) ∷ [])
unfolding digits make_not make_and make_or make_xor
reads = refl

-- the folded formulas, as numbers
trees : all_trees (design_of pal16r4 source)
    ≡ (([]) ∷ ([]) ∷ ([]) ∷ ([]) ∷ ([]) ∷ ([]) ∷ (750274 ∷ 27979 ∷ 0 ∷ 0 ∷ 0 ∷ 0 ∷ []) ∷ (58129 ∷ 27979 ∷ 0
    ∷ 0 ∷ 0 ∷ 0 ∷ []) ∷ (598877 ∷ 467473 ∷ 0 ∷ 0 ∷ 0 ∷ 0 ∷ []) ∷ (82013 ∷ 328270 ∷ 0 ∷ 0 ∷ 0 ∷ 0 ∷ [])
    ∷ (85079 ∷ 328270 ∷ 0 ∷ 0 ∷ 0 ∷ 0 ∷ []) ∷ (378000 ∷ 328270 ∷ 0 ∷ 0 ∷ 0 ∷ 0 ∷ []) ∷ ([]) ∷ ([]) ∷ ([])
    ∷ [])
unfolding digits make_not make_and make_or make_xor
trees = refl

-- the nodes of each unit
units : units_of (design_of pal16r4 source)
    ≡ (5 ∷ 2 ∷ 2 ∷ 4 ∷ 0 ∷ 2 ∷ 0 ∷ 2 ∷ 5 ∷ 8 ∷ 0 ∷ 0 ∷ 4 ∷ 0 ∷ 2 ∷ 0 ∷ 5 ∷ 2 ∷ 4 ∷ 2 ∷ 4 ∷ 5 ∷ 1 ∷ 0 ∷ 2 ∷ 2
    ∷ 0 ∷ 2 ∷ 5 ∷ [])
unfolding digits make_not make_and make_or make_xor
units = refl
