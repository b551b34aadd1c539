-- Repeated sum, and what a second implementation of the language says of it.
-- module repeated_sum
-- d device 'GAL22V10';
-- a,b,c,e,f,g pin 2,3,4,5,6,7;
-- Y pin 23;
-- equations
-- Y = (a $ b $ c $ e) & f # (a $ b $ c $ e) & !f;
-- end
use Rattle.std.specs.Prelude.{◌≡◌, [], ◌∷◌, codes}
use Rattle.meaning_points.specs.Prelude.{digits, make_not, make_and, make_or, make_xor, ModuleTree, Equations, design_of, source_logic, units_of, gal22v10}
use Rattle.std.proofs.Common.{refl}
use Rattle.meaning_points.specs.Answers.{all_reads, all_trees, answers, logic_answers, name_codes, point}
use Rattle.meaning_points.specs.Constructs.{module_of, assign, device, item, pin, pins}
use Rattle.meaning_points.specs.Trees.{both, complement, differ, either, name, paren}

-- the module as a tree
abbrev source : ModuleTree
source =
    module_of (codes "repeated_sum")
    (device "d" "'GAL22V10'"
    ∷ pins
    (item "a" ∷ item "b" ∷ item "c" ∷ item "e" ∷ item "f" ∷ item "g" ∷ [])
    (pin 2 ∷ pin 3 ∷ pin 4 ∷ pin 5 ∷ pin 6 ∷ pin 7 ∷ []) []
    ∷ pins (item "Y" ∷ []) (pin 23 ∷ []) []
    ∷ [])
    (Equations
    (assign (name "Y")
    (either
    (both (paren (differ (differ (differ (name "a") (name "b")) (name "c")) (name "e")))
    (name "f"))
    (both (paren (differ (differ (differ (name "a") (name "b")) (name "c")) (name "e")))
    (complement (name "f"))))
    ∷ [])
    ∷ [])

-- what each name is
names : name_codes (design_of gal22v10 source).context
    ≡ (48000 ∷ 64 ∷ 96 ∷ 128 ∷ 160 ∷ 192 ∷ 224 ∷ 744 ∷ [])
unfolding digits
names = refl

-- at a point, by the logic itself
at0 : logic_answers (source_logic gal22v10 source) (point 8476050 144 0) 0
    ≡ (10 ∷ 8 ∷ 8 ∷ 8 ∷ 8 ∷ 8 ∷ 8 ∷ 8 ∷ 8 ∷ 8 ∷ [])
unfolding digits
at0 = refl

-- at a second point
at1 : answers (design_of gal22v10 source) (point 17028314 37 0) 0
    ≡ (6 ∷ 8 ∷ 8 ∷ 8 ∷ 8 ∷ 8 ∷ 8 ∷ 8 ∷ 8 ∷ 8 ∷ 2 ∷ 2 ∷ 2 ∷ 2 ∷ 2 ∷ 2 ∷ 2 ∷ 0 ∷ [])
unfolding digits
at1 = refl

-- at a third
at2 : answers (design_of gal22v10 source) (point 28113138 76 0) 0
    ≡ (6 ∷ 8 ∷ 8 ∷ 8 ∷ 8 ∷ 8 ∷ 8 ∷ 8 ∷ 8 ∷ 8 ∷ 2 ∷ 2 ∷ 2 ∷ 2 ∷ 2 ∷ 2 ∷ 2 ∷ 0 ∷ [])
unfolding digits
at2 = refl

-- which signals each one reads, and which its reset reads
reads : all_reads (design_of gal22v10 source)
    ≡ (([]) ∷ ([]) ∷ ([]) ∷ ([]) ∷ ([]) ∷ ([]) ∷ ([]) ∷ ([]) ∷ ([]) ∷ ([]) ∷ ([]) ∷ ([]) ∷ ([]) ∷ ([]) ∷ ([])
    ∷ ([]) ∷ [])
unfolding digits make_not make_and make_or make_xor
reads = refl

-- the folded formulas, as numbers
trees : all_trees (design_of gal22v10 source)
    ≡ (([]) ∷ ([]) ∷ ([]) ∷ ([]) ∷ ([]) ∷ ([]) ∷ ([]) ∷ (629209 ∷ 0 ∷ 0 ∷ 0 ∷ 0 ∷ 0 ∷ []) ∷ [])
unfolding digits make_not make_and make_or make_xor
trees = refl

-- the nodes of each unit
units : units_of (design_of gal22v10 source)
    ≡ (20 ∷ [])
unfolding digits make_not make_and make_or make_xor
units = refl
