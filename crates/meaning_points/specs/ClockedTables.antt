-- Clocked tables, and what a second implementation of the language says of it.
-- module clocked_tables
-- d device 'P16R8';
-- clk,oe pin 1,11; a,b pin 2,3; q0,q1,!q2,q3 pin 12,13,14,15;
-- declarations
-- k = [q0,q1]; @DCSET
-- truth_table ([a,b,q3] :> k)
-- 3 :> 2; [1,1,.X.] :> [.X.,1]; 0 :> 3;
-- truth_table (a :> q2)
-- equations
-- { @ONSET }
-- truth_table (b :> q3)
-- 1 :> 1;
-- end
use Rattle.std.specs.Prelude.{◌≡◌, [], ◌∷◌, codes}
use Rattle.meaning_points.specs.Prelude.{digits, make_not, make_and, make_or, make_xor, ModuleTree, Declarations, Equations, design_of, source_logic, units_of, pal16r8}
use Rattle.std.proofs.Common.{refl}
use Rattle.meaning_points.specs.Answers.{all_reads, all_trees, answers, logic_answers, name_codes, point}
use Rattle.meaning_points.specs.Constructs.{module_of, clocked_table, constants, dc_set_for, device, group, item, low_item, on_set, pin, pins, row}
use Rattle.meaning_points.specs.Trees.{name, number, one, set, unknown, word}

-- the module as a tree
abbrev source : ModuleTree
source =
    module_of (codes "clocked_tables")
    (device "d" "'P16R8'"
    ∷ pins (item "clk" ∷ item "oe" ∷ []) (pin 1 ∷ pin 11 ∷ []) []
    ∷ pins (item "a" ∷ item "b" ∷ []) (pin 2 ∷ pin 3 ∷ []) []
    ∷ pins (item "q0" ∷ item "q1" ∷ low_item "q2" ∷ item "q3" ∷ [])
    (pin 12 ∷ pin 13 ∷ pin 14 ∷ pin 15 ∷ []) []
    ∷ [])
    (Declarations
    (constants (word "k" ∷ []) (set (one (name "q0") ∷ one (name "q1") ∷ []) ∷ []) ∷ dc_set_for ∷ [])
    ∷ clocked_table (set (one (name "a") ∷ one (name "b") ∷ one (name "q3") ∷ [])) (name "k")
    (row (number 3) (number 2)
    ∷ row (set (one (number 1) ∷ one (number 1) ∷ one unknown ∷ []))
    (set (one unknown ∷ one (number 1) ∷ []))
    ∷ row (number 0) (number 3)
    ∷ [])
    ∷ clocked_table (name "a") (name "q2") []
    ∷ Equations (group (on_set ∷ []) ∷ [])
    ∷ clocked_table (name "b") (name "q3") (row (number 1) (number 1) ∷ [])
    ∷ [])

-- what each name is
names : name_codes (design_of pal16r8 source).context
    ≡ (48000 ∷ 32 ∷ 352 ∷ 64 ∷ 96 ∷ 393 ∷ 425 ∷ 473 ∷ 489 ∷ 32000 ∷ [])
unfolding digits
names = refl

-- at a point, by the logic itself
at0 : logic_answers (source_logic pal16r8 source) (point 46506 238 0) 0
    ≡ (75 ∷ 71 ∷ 71 ∷ 71 ∷ 75 ∷ 199 ∷ 135 ∷ 71 ∷ [])
unfolding digits
at0 = refl

-- at a second point
at1 : answers (design_of pal16r8 source) (point 1032100 161 0) 0
    ≡ (69 ∷ 73 ∷ 73 ∷ 73 ∷ 137 ∷ 197 ∷ 201 ∷ 197 ∷ 2 ∷ 2 ∷ 2 ∷ 2 ∷ 2 ∷ 0 ∷ 0 ∷ 0 ∷ 0 ∷ 2 ∷ [])
unfolding digits
at1 = refl

-- at a third
at2 : answers (design_of pal16r8 source) (point 1763530 230 0) 0
    ≡ (73 ∷ 69 ∷ 69 ∷ 73 ∷ 73 ∷ 197 ∷ 133 ∷ 69 ∷ 2 ∷ 2 ∷ 2 ∷ 2 ∷ 2 ∷ 1 ∷ 0 ∷ 0 ∷ 1 ∷ 2 ∷ [])
unfolding digits
at2 = refl

-- which signals each one reads, and which its reset reads
reads : all_reads (design_of pal16r8 source)
    ≡ (([]) ∷ ([]) ∷ ([]) ∷ ([]) ∷ ([]) ∷ ([]) ∷ ([]) ∷ ([]) ∷ ([]) ∷ ([]) ∷ ([]) ∷ ([]) ∷ ([]) ∷ ([]) ∷ ([])
    ∷ ([]) ∷ ([]) ∷ ([]) ∷ ([]) ∷ ([]) ∷ [])
unfolding digits make_not make_and make_or make_xor
reads = refl

-- the folded formulas, as numbers
trees : all_trees (design_of pal16r8 source)
    ≡ (([]) ∷ ([]) ∷ ([]) ∷ ([]) ∷ ([]) ∷ (93481 ∷ 501410 ∷ 0 ∷ 0 ∷ 0 ∷ 0 ∷ []) ∷ (486146 ∷ 637551 ∷ 0 ∷ 0
    ∷ 0 ∷ 0 ∷ []) ∷ (0 ∷ 1 ∷ 0 ∷ 0 ∷ 0 ∷ 0 ∷ []) ∷ (19 ∷ 0 ∷ 0 ∷ 0 ∷ 0 ∷ 0 ∷ []) ∷ ([]) ∷ [])
unfolding digits make_not make_and make_or make_xor
trees = refl

-- the nodes of each unit
units : units_of (design_of pal16r8 source)
    ≡ (7 ∷ 1 ∷ 4 ∷ 1 ∷ [])
unfolding digits make_not make_and make_or make_xor
units = refl
