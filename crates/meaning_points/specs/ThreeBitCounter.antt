-- Three bit counter, and what a second implementation of the language says of it.
-- module three_bit_counter
-- u device 'GAL22V10';
-- clk pin 1; q0,q1,q2 pin 23,22,21 istype 'reg,buffer'; count = [q2..q0];
-- equations
-- count := count + 1; count.CLK = clk;
-- end
use Rattle.std.specs.Prelude.{◌≡◌, [], ◌∷◌, codes}
use Rattle.meaning_points.specs.Prelude.{digits, make_not, make_and, make_or, make_xor, ModuleTree, Equations, design_of, source_logic, units_of, gal22v10}
use Rattle.std.proofs.Common.{refl}
use Rattle.abel_tree.specs.declared.words.Extension.TheVariants as extension
use Rattle.meaning_points.specs.Answers.{all_reads, all_trees, answers, logic_answers, name_codes, point}
use Rattle.meaning_points.specs.Constructs.{module_of, assign, clocked, constants, device, item, pin, pins}
use Rattle.meaning_points.specs.Trees.{dotted, name, number, plus, set, span, word}

-- the module as a tree
abbrev source : ModuleTree
source =
    module_of (codes "three_bit_counter")
    (device "u" "'GAL22V10'"
    ∷ pins (item "clk" ∷ []) (pin 1 ∷ []) []
    ∷ pins (item "q0" ∷ item "q1" ∷ item "q2" ∷ []) (pin 23 ∷ pin 22 ∷ pin 21 ∷ [])
    (word "'reg,buffer'" ∷ [])
    ∷ constants (word "count" ∷ []) (set (span "q2" "q0" ∷ []) ∷ [])
    ∷ [])
    (Equations
    (clocked (name "count") (plus (name "count") (number 1))
    ∷ assign (dotted "count" extension.Clk) (name "clk")
    ∷ [])
    ∷ [])

-- what each name is
names : name_codes (design_of gal22v10 source).context
    ≡ (48000 ∷ 32 ∷ 747 ∷ 715 ∷ 683 ∷ 32000 ∷ [])
unfolding digits
names = refl

-- at a point, by the logic itself
at0 : logic_answers (source_logic gal22v10 source) (point 17916038 243 0) 0
    ≡ (75 ∷ 75 ∷ 135 ∷ 8 ∷ 8 ∷ 8 ∷ 8 ∷ 8 ∷ 8 ∷ 8 ∷ [])
unfolding digits
at0 = refl

-- at a second point
at1 : answers (design_of gal22v10 source) (point 21995880 306 0) 0
    ≡ (135 ∷ 139 ∷ 71 ∷ 8 ∷ 8 ∷ 8 ∷ 8 ∷ 8 ∷ 8 ∷ 8 ∷ 2 ∷ 2 ∷ 1 ∷ 1 ∷ 0 ∷ 2 ∷ [])
unfolding digits
at1 = refl

-- at a third
at2 : answers (design_of gal22v10 source) (point 23601424 821 0) 0
    ≡ (75 ∷ 135 ∷ 139 ∷ 8 ∷ 8 ∷ 8 ∷ 8 ∷ 8 ∷ 8 ∷ 8 ∷ 2 ∷ 2 ∷ 0 ∷ 1 ∷ 1 ∷ 2 ∷ [])
unfolding digits
at2 = refl

-- which signals each one reads, and which its reset reads
reads : all_reads (design_of gal22v10 source)
    ≡ (([]) ∷ ([]) ∷ ([]) ∷ ([]) ∷ ([]) ∷ ([]) ∷ ([]) ∷ ([]) ∷ ([]) ∷ ([]) ∷ ([]) ∷ ([]) ∷ [])
unfolding digits make_not make_and make_or make_xor
reads = refl

-- the folded formulas, as numbers
trees : all_trees (design_of gal22v10 source)
    ≡ (([]) ∷ ([]) ∷ (82 ∷ 0 ∷ 0 ∷ 0 ∷ 0 ∷ 0 ∷ []) ∷ (1000 ∷ 0 ∷ 0 ∷ 0 ∷ 0 ∷ 0 ∷ []) ∷ (16240 ∷ 0 ∷ 0 ∷ 0 ∷ 0
    ∷ 0 ∷ []) ∷ ([]) ∷ [])
unfolding digits make_not make_and make_or make_xor
trees = refl

-- the nodes of each unit
units : units_of (design_of gal22v10 source)
    ≡ (7 ∷ 1 ∷ [])
unfolding digits make_not make_and make_or make_xor
units = refl
