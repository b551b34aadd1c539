-- Enable pin, and what a second implementation of the language says of it.
-- module enable_pin
-- d device 'P16R4';
-- clk,oe,a pin 1,11,2; q pin 17 istype 'reg';
-- equations
-- q := a; q.OE = !oe; q.CLK = clk;
-- end
use Rattle.std.specs.Prelude.{◌≡◌, [], ◌∷◌, codes}
use Rattle.meaning_points.specs.Prelude.{digits, make_not, make_and, make_or, make_xor, ModuleTree, Equations, design_of, source_logic, units_of, pal16r4}
use Rattle.std.proofs.Common.{refl}
use Rattle.abel_tree.specs.declared.words.Extension.TheVariants as extension
use Rattle.meaning_points.specs.Answers.{all_reads, all_trees, answers, logic_answers, name_codes, point}
use Rattle.meaning_points.specs.Constructs.{module_of, assign, clocked, device, item, pin, pins}
use Rattle.meaning_points.specs.Trees.{complement, dotted, name, word}

-- the module as a tree
abbrev source : ModuleTree
source =
    module_of (codes "enable_pin")
    (device "d" "'P16R4'"
    ∷ pins (item "clk" ∷ item "oe" ∷ item "a" ∷ []) (pin 1 ∷ pin 11 ∷ pin 2 ∷ []) []
    ∷ pins (item "q" ∷ []) (pin 17 ∷ []) (word "'reg'" ∷ [])
    ∷ [])
    (Equations
    (clocked (name "q") (name "a")
    ∷ assign (dotted "q" extension.Oe) (complement (name "oe"))
    ∷ assign (dotted "q" extension.Clk) (name "clk")
    ∷ [])
    ∷ [])

-- what each name is
names : name_codes (design_of pal16r4 source).context
    ≡ (48000 ∷ 32 ∷ 352 ∷ 64 ∷ 553 ∷ [])
unfolding digits
names = refl

-- at a point, by the logic itself
at0 : logic_answers (source_logic pal16r4 source) (point 1951774 133 0) 0
    ≡ (8 ∷ 8 ∷ 69 ∷ 73 ∷ 73 ∷ 73 ∷ 8 ∷ 8 ∷ [])
unfolding digits
at0 = refl

-- at a second point
at1 : answers (design_of pal16r4 source) (point 1096888 111 0) 0
    ≡ (8 ∷ 8 ∷ 133 ∷ 69 ∷ 73 ∷ 69 ∷ 8 ∷ 8 ∷ 2 ∷ 2 ∷ 2 ∷ 2 ∷ 0 ∷ [])
unfolding digits
at1 = refl

-- at a third
at2 : answers (design_of pal16r4 source) (point 2090478 72 0) 0
    ≡ (8 ∷ 8 ∷ 75 ∷ 71 ∷ 75 ∷ 75 ∷ 8 ∷ 8 ∷ 2 ∷ 2 ∷ 2 ∷ 2 ∷ 1 ∷ [])
unfolding digits
at2 = refl

-- which signals each one reads, and which its reset reads
reads : all_reads (design_of pal16r4 source)
    ≡ (([]) ∷ ([]) ∷ ([]) ∷ ([]) ∷ ([]) ∷ ([]) ∷ ([]) ∷ ([]) ∷ ([]) ∷ ([]) ∷ [])
unfolding digits make_not make_and make_or make_xor
reads = refl

-- the folded formulas, as numbers
trees : all_trees (design_of pal16r4 source)
    ≡ (([]) ∷ ([]) ∷ ([]) ∷ ([]) ∷ (16 ∷ 0 ∷ 0 ∷ 307 ∷ 0 ∷ 0 ∷ []) ∷ [])
unfolding digits make_not make_and make_or make_xor
trees = refl

-- the nodes of each unit
units : units_of (design_of pal16r4 source)
    ≡ (1 ∷ 2 ∷ 1 ∷ [])
unfolding digits make_not make_and make_or make_xor
units = refl
