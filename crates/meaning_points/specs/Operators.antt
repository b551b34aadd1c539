-- Operators, and what a second implementation of the language says of it.
-- module operators
-- d device 'GAL22V10';
-- a,b,c,e,f,g pin 2,3,4,5,6,7;
-- y0,y1,y2,y3,y4,y5,y6,y7,y8,y9 pin 14..23;
-- A = [a,b,c]; B = [e,f,g]; n1 = 7 * 3 % 16; n2 = (200 / 7) >> 1; n3 = 1 << 31; n4 = 1 << 32; n5 = 5 - 7; n6 = !0; n7 = -3;
-- equations
-- [y0,y1,y2] = A + B & 5;
-- [y3,y4,y5] = -A $ B !$ [1,0,1];
-- y6 = (A - B < n1) # (A >= B) & (B != 3);
-- y7 = (n3 > n4) & (n5 > n6) # (n5 == n7 + 1) & a;
-- [y8,y9] = 6 & [a,b] # n2;
-- end
use Rattle.std.specs.Prelude.{◌≡◌, [], ◌∷◌, codes}
use Rattle.meaning_points.specs.Prelude.{digits, make_not, make_and, make_or, make_xor, ModuleTree, Equations, design_of, source_logic, units_of, gal22v10}
use Rattle.std.proofs.Common.{refl}
use Rattle.meaning_points.specs.Answers.{all_reads, all_trees, answers, logic_answers, name_codes, point}
use Rattle.meaning_points.specs.Constructs.{module_of, assign, constants, device, item, pin, pins, pins_to}
use Rattle.meaning_points.specs.Trees.{at_least, both, complement, differ, either, equal, less, minus, more, name, negative, number, one, over, paren, plus, rest, same, set, shift_left, shift_right, times, unequal, word}

-- the module as a tree
abbrev source : ModuleTree
source =
    module_of (codes "operators")
    (device "d" "'GAL22V10'"
    ∷ pins
    (item "a" ∷ item "b" ∷ item "c" ∷ item "e" ∷ item "f" ∷ item "g" ∷ [])
    (pin 2 ∷ pin 3 ∷ pin 4 ∷ pin 5 ∷ pin 6 ∷ pin 7 ∷ []) []
    ∷ pins
    (item "y0"
    ∷ item "y1"
    ∷ item "y2"
    ∷ item "y3"
    ∷ item "y4"
    ∷ item "y5"
    ∷ item "y6"
    ∷ item "y7"
    ∷ item "y8"
    ∷ item "y9"
    ∷ [])
    (pins_to 14 23 ∷ []) []
    ∷ constants (word "A" ∷ []) (set (one (name "a") ∷ one (name "b") ∷ one (name "c") ∷ []) ∷ [])
    ∷ constants (word "B" ∷ []) (set (one (name "e") ∷ one (name "f") ∷ one (name "g") ∷ []) ∷ [])
    ∷ constants (word "n1" ∷ []) (rest (times (number 7) (number 3)) (number 16) ∷ [])
    ∷ constants (word "n2" ∷ []) (shift_right (paren (over (number 200) (number 7))) (number 1) ∷ [])
    ∷ constants (word "n3" ∷ []) (shift_left (number 1) (number 31) ∷ [])
    ∷ constants (word "n4" ∷ []) (shift_left (number 1) (number 32) ∷ [])
    ∷ constants (word "n5" ∷ []) (minus (number 5) (number 7) ∷ [])
    ∷ constants (word "n6" ∷ []) (complement (number 0) ∷ [])
    ∷ constants (word "n7" ∷ []) (negative (number 3) ∷ [])
    ∷ [])
    (Equations
    (assign (set (one (name "y0") ∷ one (name "y1") ∷ one (name "y2") ∷ []))
    (plus (name "A") (both (name "B") (number 5)))
    ∷ assign (set (one (name "y3") ∷ one (name "y4") ∷ one (name "y5") ∷ []))
    (same (differ (negative (name "A")) (name "B"))
    (set (one (number 1) ∷ one (number 0) ∷ one (number 1) ∷ [])))
    ∷ assign (name "y6")
    (either (paren (less (minus (name "A") (name "B")) (name "n1")))
    (both (paren (at_least (name "A") (name "B"))) (paren (unequal (name "B") (number 3)))))
    ∷ assign (name "y7")
    (either (both (paren (more (name "n3") (name "n4"))) (paren (more (name "n5") (name "n6"))))
    (both (paren (equal (name "n5") (plus (name "n7") (number 1)))) (name "a")))
    ∷ assign (set (one (name "y8") ∷ one (name "y9") ∷ []))
    (either (both (number 6) (set (one (name "a") ∷ one (name "b") ∷ []))) (name "n2"))
    ∷ [])
    ∷ [])

-- what each name is
names : name_codes (design_of gal22v10 source).context
    ≡ (48000 ∷ 64 ∷ 96 ∷ 128 ∷ 160 ∷ 192 ∷ 224 ∷ 456 ∷ 488 ∷ 520 ∷ 552 ∷ 584 ∷ 616 ∷ 648 ∷ 680 ∷ 712 ∷ 744
    ∷ 32000 ∷ 32000 ∷ 32000 ∷ 32000 ∷ 32000 ∷ 32000 ∷ 32000 ∷ 32000 ∷ 32000 ∷ [])
unfolding digits
names = refl

-- at a point, by the logic itself
at0 : logic_answers (source_logic gal22v10 source) (point 28561884 860 0) 0
    ≡ (6 ∷ 10 ∷ 10 ∷ 10 ∷ 6 ∷ 6 ∷ 6 ∷ 6 ∷ 6 ∷ 6 ∷ [])
unfolding digits
at0 = refl

-- at a second point
at1 : answers (design_of gal22v10 source) (point 4564410 424 0) 0
    ≡ (6 ∷ 10 ∷ 6 ∷ 6 ∷ 6 ∷ 10 ∷ 6 ∷ 6 ∷ 6 ∷ 6 ∷ 2 ∷ 2 ∷ 2 ∷ 2 ∷ 2 ∷ 2 ∷ 2 ∷ 0 ∷ 0 ∷ 0 ∷ 0 ∷ 1 ∷ 0 ∷ 0 ∷ 0
    ∷ 1 ∷ 0 ∷ 2 ∷ 2 ∷ 2 ∷ 2 ∷ 2 ∷ 2 ∷ 2 ∷ 2 ∷ 2 ∷ [])
unfolding digits
at1 = refl

-- at a third
at2 : answers (design_of gal22v10 source) (point 10427336 347 0) 0
    ≡ (6 ∷ 10 ∷ 6 ∷ 6 ∷ 10 ∷ 10 ∷ 10 ∷ 10 ∷ 10 ∷ 6 ∷ 2 ∷ 2 ∷ 2 ∷ 2 ∷ 2 ∷ 2 ∷ 2 ∷ 0 ∷ 1 ∷ 1 ∷ 1 ∷ 1 ∷ 1 ∷ 0
    ∷ 0 ∷ 1 ∷ 0 ∷ 2 ∷ 2 ∷ 2 ∷ 2 ∷ 2 ∷ 2 ∷ 2 ∷ 2 ∷ 2 ∷ [])
unfolding digits
at2 = refl

-- which signals each one reads, and which its reset reads
reads : all_reads (design_of gal22v10 source)
    ≡ (([]) ∷ ([]) ∷ ([]) ∷ ([]) ∷ ([]) ∷ ([]) ∷ ([]) ∷ ([]) ∷ ([]) ∷ ([]) ∷ ([]) ∷ ([]) ∷ ([]) ∷ ([]) ∷ ([])
    ∷ ([]) ∷ ([]) ∷ ([]) ∷ ([]) ∷ ([]) ∷ ([]) ∷ ([]) ∷ ([]) ∷ ([]) ∷ ([]) ∷ ([]) ∷ ([]) ∷ ([]) ∷ ([])
    ∷ ([]) ∷ ([]) ∷ ([]) ∷ ([]) ∷ ([]) ∷ ([]) ∷ ([]) ∷ ([]) ∷ ([]) ∷ ([]) ∷ ([]) ∷ ([]) ∷ ([]) ∷ ([])
    ∷ ([]) ∷ ([]) ∷ ([]) ∷ ([]) ∷ ([]) ∷ ([]) ∷ ([]) ∷ ([]) ∷ ([]) ∷ [])
unfolding digits make_not make_and make_or make_xor
reads = refl

-- the folded formulas, as numbers
trees : all_trees (design_of gal22v10 source)
    ≡ (([]) ∷ ([]) ∷ ([]) ∷ ([]) ∷ ([]) ∷ ([]) ∷ ([]) ∷ (645913 ∷ 0 ∷ 0 ∷ 0 ∷ 0 ∷ 0 ∷ []) ∷ (34518 ∷ 0 ∷ 0
    ∷ 0 ∷ 0 ∷ 0 ∷ []) ∷ (2116 ∷ 0 ∷ 0 ∷ 0 ∷ 0 ∷ 0 ∷ []) ∷ (991 ∷ 0 ∷ 0 ∷ 0 ∷ 0 ∷ 0 ∷ []) ∷ (27153 ∷ 0 ∷ 0
    ∷ 0 ∷ 0 ∷ 0 ∷ []) ∷ (2116 ∷ 0 ∷ 0 ∷ 0 ∷ 0 ∷ 0 ∷ []) ∷ (317026 ∷ 0 ∷ 0 ∷ 0 ∷ 0 ∷ 0 ∷ []) ∷ (16 ∷ 0 ∷ 0
    ∷ 0 ∷ 0 ∷ 0 ∷ []) ∷ (1 ∷ 0 ∷ 0 ∷ 0 ∷ 0 ∷ 0 ∷ []) ∷ (0 ∷ 0 ∷ 0 ∷ 0 ∷ 0 ∷ 0 ∷ []) ∷ ([]) ∷ ([]) ∷ ([])
    ∷ ([]) ∷ ([]) ∷ ([]) ∷ ([]) ∷ ([]) ∷ ([]) ∷ [])
unfolding digits make_not make_and make_or make_xor
trees = refl

-- the nodes of each unit
units : units_of (design_of gal22v10 source)
    ≡ (13 ∷ 18 ∷ 62 ∷ 1 ∷ 2 ∷ [])
unfolding digits make_not make_and make_or make_xor
units = refl
