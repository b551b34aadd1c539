-- Ten registers, and what a second implementation of the language says of it.
-- module ten_registers
-- d device 'GAL22V10';
-- clk pin 1;
-- i0,i1,i2,i3,i4,i5,i6,i7,i8,i9 pin 2,3,4,5,6,7,8,9,10,11;
-- q0,q1,q2,q3,q4,q5,q6,q7,q8,q9 pin 23,22,21,20,19,18,17,16,15,14 istype 'reg,buffer';
-- equations
-- q0 := q8 & !q3 & !q1 # !q0 & q2 & !i9 # i4 & !i5 & !i9 # q7 & i6 & !q5 # i7 & !q1 & i2 # !i4 & q4 & !q1 # !q4 & i1 & i8 # !i5 & i7 & !i5;
-- q1 := i2 & q3 & !i4 # i2 & !i2 & !q7 # !q9 & q1 & !q0 # !i8 & i9 & i6 # q8 & q4 & !q6 # i1 & i3 & q3 # !i0 & !q1 & !q6 # !i0 & i9 & !q5;
-- q2 := !q4 & !i8 & !i2 # !q4 & !i2 & !i6 # i6 & q1 & q3 # q3 & i8 & !i0 # q6 & !i6 & q3 # !q1 & !i6 & i5 # q0 & !q2 & i0 # q9 & !i5 & !i5;
-- q3 := !q4 & !q6 & !i3 # !q9 & !i3 & i5 # !q3 & !q3 & !q9 # q3 & !i6 & i6 # q6 & q8 & !q3 # !q1 & q2 & !q1 # i2 & !i8 & !i3 # i1 & q5 & !i3;
-- q4 := !i4 & !q3 & i1 # i5 & i3 & !q0 # q9 & i7 & !i5 # i2 & q1 & q2 # !q4 & i7 & !q8 # i6 & !q2 & !i8 # !q1 & q2 & q1 # i8 & i9 & !q1;
-- q5 := !q5 & i4 & !q2 # q9 & q0 & q5 # !q1 & i1 & q0 # q1 & !i1 & i9 # !i6 & !i8 & !i1 # q9 & !q4 & !i2 # i8 & i5 & !i9 # !i9 & i8 & !q3;
-- q6 := q9 & q4 & !i9 # q7 & !q1 & !q4 # !q0 & i9 & q2 # !i0 & q5 & i5 # !i3 & !i8 & !q9 # !q4 & i0 & !i9 # !i9 & q6 & !q9 # i9 & !q7 & q1;
-- q7 := !i3 & i9 & q7 # !i4 & !i2 & !i6 # !i7 & i3 & i2 # q5 & i4 & i5 # !i8 & q8 & !q6 # !i6 & !i1 & !q8 # !i7 & q0 & !i0 # i8 & !i4 & i5;
-- q8 := !i8 & i5 & q8 # q8 & !i4 & !i4 # i1 & q3 & !i8 # i7 & !q5 & !q5 # q5 & !q3 & q8 # !i8 & q4 & !q1 # !q1 & i8 & !q7 # !i9 & !q0 & !i9;
-- q9 := !q9 & !q1 & !i7 # !i6 & !i5 & !i7 # !i5 & !q6 & q6 # i8 & q9 & !i2 # i9 & !q8 & i1 # !q8 & i7 & q9 # !i6 & q1 & !q3 # q1 & !i6 & q6;
-- end
use Rattle.std.specs.Prelude.{◌≡◌, [], ◌∷◌, ◌++◌, codes}
use Rattle.meaning_points.specs.Prelude.{digits, make_not, make_and, make_or, make_xor, ModuleTree, Equations, design_of, source_logic, units_of, gal22v10}
use Rattle.std.proofs.Common.{refl}
use Rattle.meaning_points.specs.Answers.{all_reads, all_trees, answers, logic_answers, name_codes, point}
use Rattle.meaning_points.specs.Constructs.{module_of, device, item, pin, pins}
use Rattle.meaning_points.specs.FirstRegisters.{first_equations}
use Rattle.meaning_points.specs.LastRegisters.{last_equations}
use Rattle.meaning_points.specs.Trees.{word}

-- the module as a tree
abbrev source : ModuleTree
source =
    module_of (codes "ten_registers")
    (device "d" "'GAL22V10'"
    ∷ pins (item "clk" ∷ []) (pin 1 ∷ []) []
    ∷ pins
    (item "i0"
    ∷ item "i1"
    ∷ item "i2"
    ∷ item "i3"
    ∷ item "i4"
    ∷ item "i5"
    ∷ item "i6"
    ∷ item "i7"
    ∷ item "i8"
    ∷ item "i9"
    ∷ [])
    (pin 2 ∷ pin 3 ∷ pin 4 ∷ pin 5 ∷ pin 6 ∷ pin 7 ∷ pin 8 ∷ pin 9 ∷ pin 10 ∷ pin 11 ∷ []) []
    ∷ pins
    (item "q0"
    ∷ item "q1"
    ∷ item "q2"
    ∷ item "q3"
    ∷ item "q4"
    ∷ item "q5"
    ∷ item "q6"
    ∷ item "q7"
    ∷ item "q8"
    ∷ item "q9"
    ∷ [])
    (pin 23 ∷ pin 22 ∷ pin 21 ∷ pin 20 ∷ pin 19 ∷ pin 18 ∷ pin 17 ∷ pin 16 ∷ pin 15 ∷ pin 14 ∷ [])
    (word "'reg,buffer'" ∷ [])
    ∷ [])
    (Equations (first_equations ++ last_equations) ∷ [])

-- what each name is
names : name_codes (design_of gal22v10 source).context
    ≡ (48000 ∷ 32 ∷ 64 ∷ 96 ∷ 128 ∷ 160 ∷ 192 ∷ 224 ∷ 256 ∷ 288 ∷ 320 ∷ 352 ∷ 747 ∷ 715 ∷ 683 ∷ 651 ∷ 619
    ∷ 587 ∷ 555 ∷ 523 ∷ 491 ∷ 459 ∷ [])
unfolding digits
names = refl

-- at a point, by the logic itself
at0 : logic_answers (source_logic gal22v10 source) (point 25764424 75 0) 0
    ≡ (139 ∷ 75 ∷ 135 ∷ 75 ∷ 135 ∷ 135 ∷ 139 ∷ 71 ∷ 135 ∷ 135 ∷ [])
unfolding digits
at0 = refl

-- at a second point
at1 : answers (design_of gal22v10 source) (point 29068674 398 0) 0
    ≡ (135 ∷ 139 ∷ 139 ∷ 139 ∷ 71 ∷ 135 ∷ 135 ∷ 139 ∷ 139 ∷ 71 ∷ 2 ∷ 2 ∷ 2 ∷ 2 ∷ 2 ∷ 2 ∷ 2 ∷ 2 ∷ 2 ∷ 2 ∷ 2
    ∷ 2 ∷ 1 ∷ 1 ∷ 1 ∷ 1 ∷ 0 ∷ 1 ∷ 1 ∷ 1 ∷ 1 ∷ 0 ∷ [])
unfolding digits
at1 = refl

-- at a third
at2 : answers (design_of gal22v10 source) (point 23075944 823 0) 0
    ≡ (75 ∷ 139 ∷ 139 ∷ 71 ∷ 75 ∷ 139 ∷ 135 ∷ 135 ∷ 139 ∷ 139 ∷ 2 ∷ 2 ∷ 2 ∷ 2 ∷ 2 ∷ 2 ∷ 2 ∷ 2 ∷ 2 ∷ 2 ∷ 2 ∷ 2
    ∷ 0 ∷ 1 ∷ 1 ∷ 0 ∷ 0 ∷ 1 ∷ 1 ∷ 1 ∷ 1 ∷ 1 ∷ [])
unfolding digits
at2 = refl

-- which signals each one reads, and which its reset reads
reads : all_reads (design_of gal22v10 source)
    ≡ (([]) ∷ ([]) ∷ ([]) ∷ ([]) ∷ ([]) ∷ ([]) ∷ ([]) ∷ ([]) ∷ ([]) ∷ ([]) ∷ ([]) ∷ ([]) ∷ ([]) ∷ ([]) ∷ ([])
    ∷ ([]) ∷ ([]) ∷ ([]) ∷ ([]) ∷ ([]) ∷ ([]) ∷ ([]) ∷ ([]) ∷ ([]) ∷ ([]) ∷ ([]) ∷ ([]) ∷ ([]) ∷ ([])
    ∷ ([]) ∷ ([]) ∷ ([]) ∷ ([]) ∷ ([]) ∷ ([]) ∷ ([]) ∷ ([]) ∷ ([]) ∷ ([]) ∷ ([]) ∷ ([]) ∷ ([]) ∷ ([])
    ∷ ([]) ∷ [])
unfolding digits make_not make_and make_or make_xor
reads = refl

-- the folded formulas, as numbers
trees : all_trees (design_of gal22v10 source)
    ≡ (([]) ∷ ([]) ∷ ([]) ∷ ([]) ∷ ([]) ∷ ([]) ∷ ([]) ∷ ([]) ∷ ([]) ∷ ([]) ∷ ([]) ∷ ([]) ∷ (988597 ∷ 0 ∷ 0
    ∷ 0 ∷ 0 ∷ 0 ∷ []) ∷ (893257 ∷ 0 ∷ 0 ∷ 0 ∷ 0 ∷ 0 ∷ []) ∷ (181757 ∷ 0 ∷ 0 ∷ 0 ∷ 0 ∷ 0 ∷ []) ∷ (755118
    ∷ 0 ∷ 0 ∷ 0 ∷ 0 ∷ 0 ∷ []) ∷ (829685 ∷ 0 ∷ 0 ∷ 0 ∷ 0 ∷ 0 ∷ []) ∷ (648480 ∷ 0 ∷ 0 ∷ 0 ∷ 0 ∷ 0 ∷ [])
    ∷ (500542 ∷ 0 ∷ 0 ∷ 0 ∷ 0 ∷ 0 ∷ []) ∷ (311046 ∷ 0 ∷ 0 ∷ 0 ∷ 0 ∷ 0 ∷ []) ∷ (885531 ∷ 0 ∷ 0 ∷ 0 ∷ 0 ∷ 0
    ∷ []) ∷ (447960 ∷ 0 ∷ 0 ∷ 0 ∷ 0 ∷ 0 ∷ []) ∷ [])
unfolding digits make_not make_and make_or make_xor
trees = refl

-- the nodes of each unit
units : units_of (design_of gal22v10 source)
    ≡ (60 ∷ 59 ∷ 60 ∷ 62 ∷ 57 ∷ 59 ∷ 60 ∷ 60 ∷ 61 ∷ 61 ∷ [])
unfolding digits make_not make_and make_or make_xor
units = refl
