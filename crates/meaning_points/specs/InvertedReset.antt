-- Inverted reset, and what a second implementation of the language says of it.
-- module inverted_reset
-- u device 'GAL22V10';
-- clk,d,rst pin 1,2,3; q pin 23 istype 'reg,invert';
-- C = .C.;
-- equations
-- q := d; q.AR = rst;
-- test_vectors ([clk,d,rst] -> q)
-- [0,0,0] -> 1; [C,0,0] -> 0; [0,0,1] -> 1;
-- end
use Rattle.std.specs.Prelude.{◌≡◌, [], ◌∷◌, codes}
use Rattle.meaning_points.specs.Prelude.{digits, make_not, make_and, make_or, make_xor, ModuleTree, Equations, design_of, source_logic, units_of, gal22v10}
use Rattle.std.proofs.Common.{refl}
use Rattle.abel_tree.specs.declared.words.Extension.TheVariants as extension
use Rattle.meaning_points.specs.Answers.{all_reads, all_trees, answers, logic_answers, name_codes, point}
use Rattle.meaning_points.specs.Constructs.{module_of, assign, clocked, constants, device, item, pin, pins, vectors}
use Rattle.meaning_points.specs.Trees.{dotted, name, pulse, word}

-- the module as a tree
abbrev source : ModuleTree
source =
    module_of (codes "inverted_reset")
    (device "u" "'GAL22V10'"
    ∷ pins (item "clk" ∷ item "d" ∷ item "rst" ∷ []) (pin 1 ∷ pin 2 ∷ pin 3 ∷ []) []
    ∷ pins (item "q" ∷ []) (pin 23 ∷ []) (word "'reg,invert'" ∷ [])
    ∷ constants (word "C" ∷ []) (pulse ∷ [])
    ∷ [])
    (Equations (clocked (name "q") (name "d") ∷ assign (dotted "q" extension.Ar) (name "rst") ∷ [])
    ∷ vectors
    ∷ [])

-- what each name is
names : name_codes (design_of gal22v10 source).context
    ≡ (48000 ∷ 32 ∷ 64 ∷ 96 ∷ 745 ∷ 32000 ∷ [])
unfolding digits
names = refl

-- at a point, by the logic itself
at0 : logic_answers (source_logic gal22v10 source) (point 3504258 184 0) 0
    ≡ (139 ∷ 8 ∷ 8 ∷ 8 ∷ 8 ∷ 8 ∷ 8 ∷ 8 ∷ 8 ∷ 8 ∷ [])
unfolding digits
at0 = refl

-- at a second point
at1 : answers (design_of gal22v10 source) (point 6441598 78 0) 0
    ≡ (91 ∷ 24 ∷ 24 ∷ 24 ∷ 24 ∷ 24 ∷ 24 ∷ 24 ∷ 24 ∷ 24 ∷ 2 ∷ 2 ∷ 2 ∷ 2 ∷ 1 ∷ 2 ∷ [])
unfolding digits
at1 = refl

-- at a third
at2 : answers (design_of gal22v10 source) (point 25796884 649 0) 0
    ≡ (71 ∷ 8 ∷ 8 ∷ 8 ∷ 8 ∷ 8 ∷ 8 ∷ 8 ∷ 8 ∷ 8 ∷ 2 ∷ 2 ∷ 2 ∷ 2 ∷ 1 ∷ 2 ∷ [])
unfolding digits
at2 = refl

-- which signals each one reads, and which its reset reads
reads : all_reads (design_of gal22v10 source)
    ≡ (([]) ∷ ([]) ∷ ([]) ∷ ([]) ∷ ([]) ∷ ([]) ∷ ([]) ∷ ([]) ∷ ([]) ∷ ([]) ∷ ([]) ∷ ([]) ∷ [])
unfolding digits make_not make_and make_or make_xor
reads = refl

-- the folded formulas, as numbers
trees : all_trees (design_of gal22v10 source)
    ≡ (([]) ∷ ([]) ∷ ([]) ∷ ([]) ∷ (16 ∷ 0 ∷ 0 ∷ 0 ∷ 20 ∷ 0 ∷ []) ∷ ([]) ∷ [])
unfolding digits make_not make_and make_or make_xor
trees = refl

-- the nodes of each unit
units : units_of (design_of gal22v10 source)
    ≡ (1 ∷ 1 ∷ [])
unfolding digits make_not make_and make_or make_xor
units = refl
