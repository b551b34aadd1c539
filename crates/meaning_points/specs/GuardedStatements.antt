-- Guarded statements, and what a second implementation of the language says of it.
-- module guarded_statements
-- d device 'P16R6';
-- clk,oe pin 1,11; a,b,c,e pin 2,3,4,5; q0,!q1,q2 pin 13,14,15 istype 'reg,dc'; y0,!y1 pin 19,12;
-- k = a # b;
-- equations
-- WHEN a THEN { y0 = b; WHEN [c] THEN {!y1 = e;} ELSE WHEN k THEN !y1 ?= a; } ELSE WHEN 2 THEN y0 = c; ELSE {y0 = e & b; }
-- WHEN 5 THEN [q0,q1,q2] := [a,b,c] + [c,b,a]; ELSE [q0,q1,q2] := 3;
-- WHEN b == c THEN [[q0],[q1,q2]] ?:= e;
-- end
use Rattle.std.specs.Prelude.{◌≡◌, [], ◌∷◌, codes}
use Rattle.meaning_points.specs.Prelude.{digits, make_not, make_and, make_or, make_xor, ModuleTree, Equations, design_of, source_logic, units_of, pal16r6}
use Rattle.std.proofs.Common.{refl}
use Rattle.meaning_points.specs.Answers.{all_reads, all_trees, answers, logic_answers, name_codes, point}
use Rattle.meaning_points.specs.Constructs.{module_of, assign, clocked, clocked_any, constants, device, group, item, low_item, not_assign, not_assign_any, pin, pins, when_else, when_then}
use Rattle.meaning_points.specs.Trees.{both, either, equal, name, number, one, plus, set, word}

-- the module as a tree
abbrev source : ModuleTree
source =
    module_of (codes "guarded_statements")
    (device "d" "'P16R6'"
    ∷ pins (item "clk" ∷ item "oe" ∷ []) (pin 1 ∷ pin 11 ∷ []) []
    ∷ pins (item "a" ∷ item "b" ∷ item "c" ∷ item "e" ∷ []) (pin 2 ∷ pin 3 ∷ pin 4 ∷ pin 5 ∷ []) []
    ∷ pins (item "q0" ∷ low_item "q1" ∷ item "q2" ∷ []) (pin 13 ∷ pin 14 ∷ pin 15 ∷ [])
    (word "'reg,dc'" ∷ [])
    ∷ pins (item "y0" ∷ low_item "y1" ∷ []) (pin 19 ∷ pin 12 ∷ []) []
    ∷ constants (word "k" ∷ []) (either (name "a") (name "b") ∷ [])
    ∷ [])
    (Equations
    (when_else (name "a")
    (group
    (assign (name "y0") (name "b")
    ∷ when_else (set (one (name "c") ∷ []))
    (group (not_assign (name "y1") (name "e") ∷ []))
    (when_then (name "k") (not_assign_any (name "y1") (name "a")))
    ∷ []))
    (when_else (number 2) (assign (name "y0") (name "c"))
    (group (assign (name "y0") (both (name "e") (name "b")) ∷ [])))
    ∷ when_else (number 5)
    (clocked (set (one (name "q0") ∷ one (name "q1") ∷ one (name "q2") ∷ []))
    (plus (set (one (name "a") ∷ one (name "b") ∷ one (name "c") ∷ []))
    (set (one (name "c") ∷ one (name "b") ∷ one (name "a") ∷ []))))
    (clocked (set (one (name "q0") ∷ one (name "q1") ∷ one (name "q2") ∷ [])) (number 3))
    ∷ when_then (equal (name "b") (name "c"))
    (clocked_any
    (set
    (one (set (one (name "q0") ∷ []))
    ∷ one (set (one (name "q1") ∷ one (name "q2") ∷ []))
    ∷ []))
    (name "e"))
    ∷ [])
    ∷ [])

-- what each name is
names : name_codes (design_of pal16r6 source).context
    ≡ (48000 ∷ 32 ∷ 352 ∷ 64 ∷ 96 ∷ 128 ∷ 160 ∷ 429 ∷ 477 ∷ 493 ∷ 616 ∷ 408 ∷ 32000 ∷ [])
unfolding digits
names = refl

-- at a point, by the logic itself
at0 : logic_answers (source_logic pal16r6 source) (point 1540658 52 0) 0
    ≡ (6 ∷ 75 ∷ 71 ∷ 75 ∷ 71 ∷ 71 ∷ 75 ∷ 6 ∷ [])
unfolding digits
at0 = refl

-- at a second point
at1 : answers (design_of pal16r6 source) (point 257274 122 0) 0
    ≡ (10 ∷ 69 ∷ 73 ∷ 69 ∷ 69 ∷ 197 ∷ 197 ∷ 6 ∷ 2 ∷ 2 ∷ 2 ∷ 2 ∷ 2 ∷ 2 ∷ 2 ∷ 0 ∷ 0 ∷ 1 ∷ 1 ∷ 1 ∷ 2 ∷ [])
unfolding digits
at1 = refl

-- at a third
at2 : answers (design_of pal16r6 source) (point 2076674 226 0) 0
    ≡ (6 ∷ 71 ∷ 75 ∷ 75 ∷ 139 ∷ 71 ∷ 135 ∷ 6 ∷ 2 ∷ 2 ∷ 2 ∷ 2 ∷ 2 ∷ 2 ∷ 2 ∷ 0 ∷ 0 ∷ 0 ∷ 0 ∷ 1 ∷ 2 ∷ [])
unfolding digits
at2 = refl

-- which signals each one reads, and which its reset reads
reads : all_reads (design_of pal16r6 source)
    ≡ (([]) ∷ ([]) ∷ ([]) ∷ ([]) ∷ ([]) ∷ ([]) ∷ ([]) ∷ ([]) ∷ ([]) ∷ ([]) ∷ ([]) ∷ ([]) ∷ ([]) ∷ ([]) ∷ ([])
    ∷ ([]) ∷ ([]) ∷ ([]) ∷ ([]) ∷ ([]) ∷ ([]) ∷ ([]) ∷ ([]) ∷ ([]) ∷ ([]) ∷ ([]) ∷ [])
unfolding digits make_not make_and make_or make_xor
reads = refl

-- the folded formulas, as numbers
trees : all_trees (design_of pal16r6 source)
    ≡ (([]) ∷ ([]) ∷ ([]) ∷ ([]) ∷ ([]) ∷ ([]) ∷ ([]) ∷ (684512 ∷ 149377 ∷ 0 ∷ 0 ∷ 0 ∷ 0 ∷ []) ∷ (79341
    ∷ 149377 ∷ 0 ∷ 0 ∷ 0 ∷ 0 ∷ []) ∷ (1501 ∷ 149377 ∷ 0 ∷ 0 ∷ 0 ∷ 0 ∷ []) ∷ (381800 ∷ 0 ∷ 0 ∷ 0 ∷ 0 ∷ 0
    ∷ []) ∷ (8145 ∷ 701542 ∷ 1 ∷ 0 ∷ 0 ∷ 0 ∷ []) ∷ ([]) ∷ [])
unfolding digits make_not make_and make_or make_xor
trees = refl

-- the nodes of each unit
units : units_of (design_of pal16r6 source)
    ≡ (2 ∷ 2 ∷ 4 ∷ 2 ∷ 4 ∷ 2 ∷ 0 ∷ 1 ∷ 4 ∷ 0 ∷ 17 ∷ 0 ∷ 4 ∷ 4 ∷ [])
unfolding digits make_not make_and make_or make_xor
units = refl
