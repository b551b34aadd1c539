-- Unknown positions, and what a second implementation of the language says of it.
-- module unknown_positions
-- d device 'GAL22V10';
-- a,b,c,e,f,g pin 2,3,4,5,6,7;
-- y0,y1,y2,y3,y4,y5,y6,y7 pin 14..21;
-- A = [a,b,c]; B = [[e,f],g]; K = [a,.X.,b,.X.]; AX = [.X.,.X.];
-- equations
-- y0 = K <= [e,f,.X.,g]; y1 = K == 10; y2 = (AX == 3); y3 = (AX < [a,b]); y4 = AX >= [a,b];
-- y5 = !(A > B) !$ a; y6 = [a] & b; y7 = ([a,1,0,b] - 1 == [!a,b,1,g]) ;
-- end
use Rattle.std.specs.Prelude.{◌≡◌, [], ◌∷◌, codes}
use Rattle.meaning_points.specs.Prelude.{digits, make_not, make_and, make_or, make_xor, ModuleTree, Equations, design_of, source_logic, units_of, gal22v10}
use Rattle.std.proofs.Common.{refl}
use Rattle.meaning_points.specs.Answers.{all_reads, all_trees, answers, logic_answers, name_codes, point}
use Rattle.meaning_points.specs.Constructs.{module_of, assign, constants, device, item, pin, pins, pins_to}
use Rattle.meaning_points.specs.Trees.{at_least, at_most, both, complement, equal, less, minus, more, name, number, one, paren, same, set, unknown, word}

-- the module as a tree
abbrev source : ModuleTree
source =
    module_of (codes "unknown_positions")
    (device "d" "'GAL22V10'"
    ∷ pins
    (item "a" ∷ item "b" ∷ item "c" ∷ item "e" ∷ item "f" ∷ item "g" ∷ [])
    (pin 2 ∷ pin 3 ∷ pin 4 ∷ pin 5 ∷ pin 6 ∷ pin 7 ∷ []) []
    ∷ pins
    (item "y0"
    ∷ item "y1"
    ∷ item "y2"
    ∷ item "y3"
    ∷ item "y4"
    ∷ item "y5"
    ∷ item "y6"
    ∷ item "y7"
    ∷ [])
    (pins_to 14 21 ∷ []) []
    ∷ constants (word "A" ∷ []) (set (one (name "a") ∷ one (name "b") ∷ one (name "c") ∷ []) ∷ [])
    ∷ constants (word "B" ∷ [])
    (set (one (set (one (name "e") ∷ one (name "f") ∷ [])) ∷ one (name "g") ∷ []) ∷ [])
    ∷ constants (word "K" ∷ [])
    (set (one (name "a") ∷ one unknown ∷ one (name "b") ∷ one unknown ∷ []) ∷ [])
    ∷ constants (word "AX" ∷ []) (set (one unknown ∷ one unknown ∷ []) ∷ [])
    ∷ [])
    (Equations
    (assign (name "y0")
    (at_most (name "K")
    (set (one (name "e") ∷ one (name "f") ∷ one unknown ∷ one (name "g") ∷ [])))
    ∷ assign (name "y1") (equal (name "K") (number 10))
    ∷ assign (name "y2") (paren (equal (name "AX") (number 3)))
    ∷ assign (name "y3") (paren (less (name "AX") (set (one (name "a") ∷ one (name "b") ∷ []))))
    ∷ assign (name "y4") (at_least (name "AX") (set (one (name "a") ∷ one (name "b") ∷ [])))
    ∷ assign (name "y5") (same (complement (paren (more (name "A") (name "B")))) (name "a"))
    ∷ assign (name "y6") (both (set (one (name "a") ∷ [])) (name "b"))
    ∷ assign (name "y7")
    (paren
    (equal
    (minus
    (set (one (name "a") ∷ one (number 1) ∷ one (number 0) ∷ one (name "b") ∷ []))
    (number 1))
    (set
    (one (complement (name "a"))
    ∷ one (name "b")
    ∷ one (number 1)
    ∷ one (name "g")
    ∷ []))))
    ∷ [])
    ∷ [])

-- what each name is
names : name_codes (design_of gal22v10 source).context
    ≡ (48000 ∷ 64 ∷ 96 ∷ 128 ∷ 160 ∷ 192 ∷ 224 ∷ 456 ∷ 488 ∷ 520 ∷ 552 ∷ 584 ∷ 616 ∷ 648 ∷ 680 ∷ 32000
    ∷ 32000 ∷ 32000 ∷ 32000 ∷ [])
unfolding digits
names = refl

-- at a point, by the logic itself
at0 : logic_answers (source_logic gal22v10 source) (point 18456962 397 0) 0
    ≡ (8 ∷ 8 ∷ 6 ∷ 6 ∷ 6 ∷ 10 ∷ 6 ∷ 10 ∷ 6 ∷ 10 ∷ [])
unfolding digits
at0 = refl

-- at a second point
at1 : answers (design_of gal22v10 source) (point 29550830 852 0) 0
    ≡ (8 ∷ 8 ∷ 6 ∷ 10 ∷ 10 ∷ 10 ∷ 6 ∷ 10 ∷ 10 ∷ 10 ∷ 2 ∷ 2 ∷ 2 ∷ 2 ∷ 2 ∷ 2 ∷ 2 ∷ 1 ∷ 1 ∷ 1 ∷ 0 ∷ 1 ∷ 1 ∷ 1
    ∷ 0 ∷ 2 ∷ 2 ∷ 2 ∷ 2 ∷ [])
unfolding digits
at1 = refl

-- at a third
at2 : answers (design_of gal22v10 source) (point 27656312 150 0) 0
    ≡ (8 ∷ 8 ∷ 6 ∷ 6 ∷ 6 ∷ 10 ∷ 6 ∷ 10 ∷ 6 ∷ 10 ∷ 2 ∷ 2 ∷ 2 ∷ 2 ∷ 2 ∷ 2 ∷ 2 ∷ 1 ∷ 0 ∷ 1 ∷ 0 ∷ 1 ∷ 0 ∷ 0 ∷ 0
    ∷ 2 ∷ 2 ∷ 2 ∷ 2 ∷ [])
unfolding digits
at2 = refl

-- which signals each one reads, and which its reset reads
reads : all_reads (design_of gal22v10 source)
    ≡ (([]) ∷ ([]) ∷ ([]) ∷ ([]) ∷ ([]) ∷ ([]) ∷ ([]) ∷ ([]) ∷ ([]) ∷ ([]) ∷ ([]) ∷ ([]) ∷ ([]) ∷ ([]) ∷ ([])
    ∷ ([]) ∷ ([]) ∷ ([]) ∷ ([]) ∷ ([]) ∷ ([]) ∷ ([]) ∷ ([]) ∷ ([]) ∷ ([]) ∷ ([]) ∷ ([]) ∷ ([]) ∷ ([])
    ∷ ([]) ∷ ([]) ∷ ([]) ∷ ([]) ∷ ([]) ∷ ([]) ∷ ([]) ∷ ([]) ∷ ([]) ∷ [])
unfolding digits make_not make_and make_or make_xor
reads = refl

-- the folded formulas, as numbers
trees : all_trees (design_of gal22v10 source)
    ≡ (([]) ∷ ([]) ∷ ([]) ∷ ([]) ∷ ([]) ∷ ([]) ∷ ([]) ∷ (18366 ∷ 0 ∷ 0 ∷ 0 ∷ 0 ∷ 0 ∷ []) ∷ (542 ∷ 0 ∷ 0 ∷ 0
    ∷ 0 ∷ 0 ∷ []) ∷ (1 ∷ 0 ∷ 0 ∷ 0 ∷ 0 ∷ 0 ∷ []) ∷ (0 ∷ 0 ∷ 0 ∷ 0 ∷ 0 ∷ 0 ∷ []) ∷ (1 ∷ 0 ∷ 0 ∷ 0 ∷ 0 ∷ 0
    ∷ []) ∷ (906146 ∷ 0 ∷ 0 ∷ 0 ∷ 0 ∷ 0 ∷ []) ∷ (542 ∷ 0 ∷ 0 ∷ 0 ∷ 0 ∷ 0 ∷ []) ∷ (602279 ∷ 0 ∷ 0 ∷ 0 ∷ 0
    ∷ 0 ∷ []) ∷ ([]) ∷ ([]) ∷ ([]) ∷ ([]) ∷ [])
unfolding digits make_not make_and make_or make_xor
trees = refl

-- the nodes of each unit
units : units_of (design_of gal22v10 source)
    ≡ (10 ∷ 5 ∷ 0 ∷ 2 ∷ 2 ∷ 26 ∷ 3 ∷ 19 ∷ [])
unfolding digits make_not make_and make_or make_xor
units = refl
