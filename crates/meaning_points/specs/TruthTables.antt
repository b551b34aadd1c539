-- Truth tables, and what a second implementation of the language says of it.
-- module truth_tables
-- d device 'P16L8';
-- a,b,c,e pin 2,3,4,5; !f pin 6; y0,y1,y2,!y3 pin 18,17,16,15; n0 node istype 'dc';
-- X = .X.; hd = [a,[b,c],X]; two = 1 + 1; ent = [1,X];
-- @DCSET
-- truth_table (hd -> [y0,X,[y1,y2]])
-- [1,2,0] -> [1,0,X];
-- [X,[1,X],1] -> [0,1,1];
-- [0,two,X] -> [X,1,[X,1]];
-- X -> 0;
-- truth_table ([e,[a,b]] -> n0)
-- [1,ent] -> 1; [0,3] -> X;
-- @ONSET
-- truth_table ([f,a & b] -> y3)
-- [1,0] -> 1;
-- [X,1] -> .X.;
-- 5 -> 0;
-- @DCSET
-- truth_table ([e,f] -> y3)
-- [1,1] -> 1;
-- end
use Rattle.std.specs.Prelude.{◌≡◌, [], ◌∷◌, codes}
use Rattle.meaning_points.specs.Prelude.{digits, make_not, make_and, make_or, make_xor, ModuleTree, design_of, source_logic, units_of, pal16l8}
use Rattle.std.proofs.Common.{refl}
use Rattle.meaning_points.specs.Answers.{all_reads, all_trees, answers, logic_answers, name_codes, point}
use Rattle.meaning_points.specs.Constructs.{module_of, constants, dc_set_for, dc_set_from, device, item, low_item, nodes, on_set_from, pin, pins, row, table}
use Rattle.meaning_points.specs.Trees.{both, name, number, one, plus, set, unknown, word}

-- the module as a tree
abbrev source : ModuleTree
source =
    module_of (codes "truth_tables")
    (device "d" "'P16L8'"
    ∷ pins (item "a" ∷ item "b" ∷ item "c" ∷ item "e" ∷ []) (pin 2 ∷ pin 3 ∷ pin 4 ∷ pin 5 ∷ []) []
    ∷ pins (low_item "f" ∷ []) (pin 6 ∷ []) []
    ∷ pins (item "y0" ∷ item "y1" ∷ item "y2" ∷ low_item "y3" ∷ [])
    (pin 18 ∷ pin 17 ∷ pin 16 ∷ pin 15 ∷ []) []
    ∷ nodes (item "n0" ∷ []) (word "'dc'" ∷ [])
    ∷ constants (word "X" ∷ []) (unknown ∷ [])
    ∷ constants (word "hd" ∷ [])
    (set (one (name "a") ∷ one (set (one (name "b") ∷ one (name "c") ∷ [])) ∷ one (name "X") ∷ [])
    ∷ [])
    ∷ constants (word "two" ∷ []) (plus (number 1) (number 1) ∷ [])
    ∷ constants (word "ent" ∷ []) (set (one (number 1) ∷ one (name "X") ∷ []) ∷ [])
    ∷ dc_set_for
    ∷ [])
    (table (name "hd")
    (set
    (one (name "y0") ∷ one (name "X") ∷ one (set (one (name "y1") ∷ one (name "y2") ∷ [])) ∷ []))
    (row (set (one (number 1) ∷ one (number 2) ∷ one (number 0) ∷ []))
    (set (one (number 1) ∷ one (number 0) ∷ one (name "X") ∷ []))
    ∷ row
    (set
    (one (name "X")
    ∷ one (set (one (number 1) ∷ one (name "X") ∷ []))
    ∷ one (number 1)
    ∷ []))
    (set (one (number 0) ∷ one (number 1) ∷ one (number 1) ∷ []))
    ∷ row (set (one (number 0) ∷ one (name "two") ∷ one (name "X") ∷ []))
    (set
    (one (name "X")
    ∷ one (number 1)
    ∷ one (set (one (name "X") ∷ one (number 1) ∷ []))
    ∷ []))
    ∷ row (name "X") (number 0)
    ∷ [])
    ∷ table (set (one (name "e") ∷ one (set (one (name "a") ∷ one (name "b") ∷ [])) ∷ [])) (name "n0")
    (row (set (one (number 1) ∷ one (name "ent") ∷ [])) (number 1)
    ∷ row (set (one (number 0) ∷ one (number 3) ∷ [])) (name "X")
    ∷ [])
    ∷ on_set_from
    ∷ table (set (one (name "f") ∷ one (both (name "a") (name "b")) ∷ [])) (name "y3")
    (row (set (one (number 1) ∷ one (number 0) ∷ [])) (number 1)
    ∷ row (set (one (name "X") ∷ one (number 1) ∷ [])) unknown
    ∷ row (number 5) (number 0)
    ∷ [])
    ∷ dc_set_from
    ∷ table (set (one (name "e") ∷ one (name "f") ∷ [])) (name "y3")
    (row (set (one (number 1) ∷ one (number 1) ∷ [])) (number 1) ∷ [])
    ∷ [])

-- what each name is
names : name_codes (design_of pal16l8 source).context
    ≡ (48000 ∷ 64 ∷ 96 ∷ 128 ∷ 160 ∷ 208 ∷ 584 ∷ 552 ∷ 520 ∷ 504 ∷ 16012 ∷ 32000 ∷ 32000 ∷ 32000 ∷ 32000 ∷ [])
unfolding digits
names = refl

-- at a point, by the logic itself
at0 : logic_answers (source_logic pal16l8 source) (point 1881868 25 1) 1
    ≡ (8 ∷ 10 ∷ 14 ∷ 10 ∷ 14 ∷ 8 ∷ 8 ∷ 8 ∷ 7 ∷ [])
unfolding digits
at0 = refl

-- at a second point
at1 : answers (design_of pal16l8 source) (point 147346 228 0) 1
    ≡ (8 ∷ 6 ∷ 6 ∷ 6 ∷ 6 ∷ 8 ∷ 8 ∷ 8 ∷ 7 ∷ 2 ∷ 2 ∷ 2 ∷ 2 ∷ 2 ∷ 2 ∷ 0 ∷ 0 ∷ 0 ∷ 1 ∷ 0 ∷ 2 ∷ 2 ∷ 2 ∷ 2 ∷ [])
unfolding digits
at1 = refl

-- at a third
at2 : answers (design_of pal16l8 source) (point 1930498 237 0) 1
    ≡ (8 ∷ 6 ∷ 6 ∷ 6 ∷ 6 ∷ 8 ∷ 8 ∷ 8 ∷ 7 ∷ 2 ∷ 2 ∷ 2 ∷ 2 ∷ 2 ∷ 2 ∷ 0 ∷ 0 ∷ 0 ∷ 1 ∷ 0 ∷ 2 ∷ 2 ∷ 2 ∷ 2 ∷ [])
unfolding digits
at2 = refl

-- which signals each one reads, and which its reset reads
reads : all_reads (design_of pal16l8 source)
    ≡ (([]) ∷ ([]) ∷ ([]) ∷ ([]) ∷ ([]) ∷ ([]) ∷ ([]) ∷ ([]) ∷ ([]) ∷ ([]) ∷ ([]) ∷ ([]) ∷ ([]) ∷ ([]) ∷ ([])
    ∷ ([]) ∷ ([]) ∷ ([]) ∷ ([]) ∷ ([]) ∷ ([]) ∷ ([]) ∷ ([]) ∷ ([]) ∷ ([]) ∷ ([]) ∷ ([]) ∷ ([]) ∷ ([])
    ∷ ([]) ∷ [])
unfolding digits make_not make_and make_or make_xor
reads = refl

-- the folded formulas, as numbers
trees : all_trees (design_of pal16l8 source)
    ≡ (([]) ∷ ([]) ∷ ([]) ∷ ([]) ∷ ([]) ∷ ([]) ∷ (9760 ∷ 26829 ∷ 0 ∷ 0 ∷ 0 ∷ 0 ∷ []) ∷ (0 ∷ 2537 ∷ 0 ∷ 0 ∷ 0
    ∷ 0 ∷ []) ∷ (778497 ∷ 9760 ∷ 0 ∷ 0 ∷ 0 ∷ 0 ∷ []) ∷ (654614 ∷ 542 ∷ 0 ∷ 0 ∷ 0 ∷ 0 ∷ []) ∷ (608 ∷ 341185
    ∷ 0 ∷ 0 ∷ 0 ∷ 0 ∷ []) ∷ ([]) ∷ ([]) ∷ ([]) ∷ ([]) ∷ [])
unfolding digits make_not make_and make_or make_xor
trees = refl

-- the nodes of each unit
units : units_of (design_of pal16l8 source)
    ≡ (6 ∷ 0 ∷ 4 ∷ 0 ∷ 4 ∷ 3 ∷ 7 ∷ 0 ∷ 1 ∷ 4 ∷ [])
unfolding digits make_not make_and make_or make_xor
units = refl
