-- Constant arithmetic, and what a second implementation of the language says of it.
-- module constant_arithmetic
-- d device 'GAL22V10';
-- a,b,c,e pin 2,3,4,5;
-- y0,y1,y2,y3,y4,y5,y6,y7 pin 21..14;
-- n1 = 4294967295 >> 31; n2 = 4294967295 >> 32; n3 = 5 >> 40; n4 = 3 << 32; n5 = 4294967295 * 4294967295; n6 = 7 % 9 - 8 / 3; n7 = -0; n8 = !5 $ -6;
-- n9 = (3 > 2) + [1] ; X = .X.;
-- equations
-- [y0,y1] = n1 + n2 + n3; y2 = n4 # n5 # n7; [y3,y4,y5] = n6 !$ n8; y6 = n9; y7 = ([X,a,X,b] == [c,X,X,e]) # ([a,X] != [X,b]) & ([X] < 1);
-- end
use Rattle.std.specs.Prelude.{◌≡◌, [], ◌∷◌, codes}
use Rattle.meaning_points.specs.Prelude.{digits, make_not, make_and, make_or, make_xor, ModuleTree, Equations, design_of, source_logic, units_of, gal22v10}
use Rattle.std.proofs.Common.{refl}
use Rattle.meaning_points.specs.Answers.{all_reads, all_trees, answers, logic_answers, name_codes, point}
use Rattle.meaning_points.specs.Constructs.{module_of, assign, constants, device, item, pin, pins, pins_to}
use Rattle.meaning_points.specs.Trees.{both, complement, differ, either, equal, less, minus, more, name, negative, number, one, over, paren, plus, rest, same, set, shift_left, shift_right, times, unequal, unknown, word}

-- the module as a tree
abbrev source : ModuleTree
source =
    module_of (codes "constant_arithmetic")
    (device "d" "'GAL22V10'"
    ∷ pins (item "a" ∷ item "b" ∷ item "c" ∷ item "e" ∷ []) (pin 2 ∷ pin 3 ∷ pin 4 ∷ pin 5 ∷ []) []
    ∷ pins
    (item "y0"
    ∷ item "y1"
    ∷ item "y2"
    ∷ item "y3"
    ∷ item "y4"
    ∷ item "y5"
    ∷ item "y6"
    ∷ item "y7"
    ∷ [])
    (pins_to 21 14 ∷ []) []
    ∷ constants (word "n1" ∷ []) (shift_right (number 4294967295) (number 31) ∷ [])
    ∷ constants (word "n2" ∷ []) (shift_right (number 4294967295) (number 32) ∷ [])
    ∷ constants (word "n3" ∷ []) (shift_right (number 5) (number 40) ∷ [])
    ∷ constants (word "n4" ∷ []) (shift_left (number 3) (number 32) ∷ [])
    ∷ constants (word "n5" ∷ []) (times (number 4294967295) (number 4294967295) ∷ [])
    ∷ constants (word "n6" ∷ []) (minus (rest (number 7) (number 9)) (over (number 8) (number 3)) ∷ [])
    ∷ constants (word "n7" ∷ []) (negative (number 0) ∷ [])
    ∷ constants (word "n8" ∷ []) (differ (complement (number 5)) (negative (number 6)) ∷ [])
    ∷ constants (word "n9" ∷ [])
    (plus (paren (more (number 3) (number 2))) (set (one (number 1) ∷ [])) ∷ [])
    ∷ constants (word "X" ∷ []) (unknown ∷ [])
    ∷ [])
    (Equations
    (assign (set (one (name "y0") ∷ one (name "y1") ∷ []))
    (plus (plus (name "n1") (name "n2")) (name "n3"))
    ∷ assign (name "y2") (either (either (name "n4") (name "n5")) (name "n7"))
    ∷ assign (set (one (name "y3") ∷ one (name "y4") ∷ one (name "y5") ∷ []))
    (same (name "n6") (name "n8"))
    ∷ assign (name "y6") (name "n9")
    ∷ assign (name "y7")
    (either
    (paren
    (equal
    (set (one (name "X") ∷ one (name "a") ∷ one (name "X") ∷ one (name "b") ∷ []))
    (set (one (name "c") ∷ one (name "X") ∷ one (name "X") ∷ one (name "e") ∷ []))))
    (both
    (paren
    (unequal (set (one (name "a") ∷ one (name "X") ∷ []))
    (set (one (name "X") ∷ one (name "b") ∷ []))))
    (paren (less (set (one (name "X") ∷ [])) (number 1)))))
    ∷ [])
    ∷ [])

-- what each name is
names : name_codes (design_of gal22v10 source).context
    ≡ (48000 ∷ 64 ∷ 96 ∷ 128 ∷ 160 ∷ 680 ∷ 648 ∷ 616 ∷ 584 ∷ 552 ∷ 520 ∷ 488 ∷ 456 ∷ 32000 ∷ 32000 ∷ 32000
    ∷ 32000 ∷ 32000 ∷ 32000 ∷ 32000 ∷ 32000 ∷ 32000 ∷ 32000 ∷ [])
unfolding digits
names = refl

-- at a point, by the logic itself
at0 : logic_answers (source_logic gal22v10 source) (point 9021436 669 0) 0
    ≡ (8 ∷ 8 ∷ 6 ∷ 10 ∷ 10 ∷ 6 ∷ 10 ∷ 6 ∷ 6 ∷ 10 ∷ [])
unfolding digits
at0 = refl

-- at a second point
at1 : answers (design_of gal22v10 source) (point 11983546 492 0) 0
    ≡ (8 ∷ 8 ∷ 6 ∷ 10 ∷ 10 ∷ 6 ∷ 10 ∷ 6 ∷ 6 ∷ 10 ∷ 2 ∷ 2 ∷ 2 ∷ 2 ∷ 2 ∷ 0 ∷ 1 ∷ 1 ∷ 0 ∷ 1 ∷ 0 ∷ 0 ∷ 1 ∷ 2 ∷ 2
    ∷ 2 ∷ 2 ∷ 2 ∷ 2 ∷ 2 ∷ 2 ∷ 2 ∷ 2 ∷ [])
unfolding digits
at1 = refl

-- at a third
at2 : answers (design_of gal22v10 source) (point 8416212 407 0) 0
    ≡ (8 ∷ 8 ∷ 6 ∷ 10 ∷ 10 ∷ 6 ∷ 10 ∷ 6 ∷ 6 ∷ 10 ∷ 2 ∷ 2 ∷ 2 ∷ 2 ∷ 2 ∷ 0 ∷ 1 ∷ 1 ∷ 0 ∷ 1 ∷ 0 ∷ 0 ∷ 1 ∷ 2 ∷ 2
    ∷ 2 ∷ 2 ∷ 2 ∷ 2 ∷ 2 ∷ 2 ∷ 2 ∷ 2 ∷ [])
unfolding digits
at2 = refl

-- which signals each one reads, and which its reset reads
reads : all_reads (design_of gal22v10 source)
    ≡ (([]) ∷ ([]) ∷ ([]) ∷ ([]) ∷ ([]) ∷ ([]) ∷ ([]) ∷ ([]) ∷ ([]) ∷ ([]) ∷ ([]) ∷ ([]) ∷ ([]) ∷ ([]) ∷ ([])
    ∷ ([]) ∷ ([]) ∷ ([]) ∷ ([]) ∷ ([]) ∷ ([]) ∷ ([]) ∷ ([]) ∷ ([]) ∷ ([]) ∷ ([]) ∷ ([]) ∷ ([]) ∷ ([])
    ∷ ([]) ∷ ([]) ∷ ([]) ∷ ([]) ∷ ([]) ∷ ([]) ∷ ([]) ∷ ([]) ∷ ([]) ∷ ([]) ∷ ([]) ∷ ([]) ∷ ([]) ∷ ([])
    ∷ ([]) ∷ ([]) ∷ ([]) ∷ [])
unfolding digits make_not make_and make_or make_xor
reads = refl

-- the folded formulas, as numbers
trees : all_trees (design_of gal22v10 source)
    ≡ (([]) ∷ ([]) ∷ ([]) ∷ ([]) ∷ ([]) ∷ (0 ∷ 0 ∷ 0 ∷ 0 ∷ 0 ∷ 0 ∷ []) ∷ (1 ∷ 0 ∷ 0 ∷ 0 ∷ 0 ∷ 0 ∷ []) ∷ (1
    ∷ 0 ∷ 0 ∷ 0 ∷ 0 ∷ 0 ∷ []) ∷ (0 ∷ 0 ∷ 0 ∷ 0 ∷ 0 ∷ 0 ∷ []) ∷ (1 ∷ 0 ∷ 0 ∷ 0 ∷ 0 ∷ 0 ∷ []) ∷ (0 ∷ 0 ∷ 0
    ∷ 0 ∷ 0 ∷ 0 ∷ []) ∷ (0 ∷ 0 ∷ 0 ∷ 0 ∷ 0 ∷ 0 ∷ []) ∷ (12318 ∷ 0 ∷ 0 ∷ 0 ∷ 0 ∷ 0 ∷ []) ∷ ([]) ∷ ([])
    ∷ ([]) ∷ ([]) ∷ ([]) ∷ ([]) ∷ ([]) ∷ ([]) ∷ ([]) ∷ ([]) ∷ [])
unfolding digits make_not make_and make_or make_xor
trees = refl

-- the nodes of each unit
units : units_of (design_of gal22v10 source)
    ≡ (0 ∷ 0 ∷ 0 ∷ 0 ∷ 8 ∷ [])
unfolding digits make_not make_and make_or make_xor
units = refl
