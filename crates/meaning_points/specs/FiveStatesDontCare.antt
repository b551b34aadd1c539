-- Five states dont care, and what a second implementation of the language says of it.
-- module five_states_dont_care
-- u device 'GAL22V10';
-- q2,q1,q0 pin 23,22,21 istype 'reg,buffer,dc';
-- state_diagram [q2..q0]
-- state 0: goto 1;
-- state 1: goto 2;
-- state 2: goto 3;
-- state 3: goto 4;
-- state 4: goto 0;
-- end
use Rattle.std.specs.Prelude.{◌≡◌, [], ◌∷◌, codes}
use Rattle.meaning_points.specs.Prelude.{digits, make_not, make_and, make_or, make_xor, ModuleTree, design_of, source_logic, units_of, gal22v10}
use Rattle.std.proofs.Common.{refl}
use Rattle.meaning_points.specs.Answers.{all_reads, all_trees, answers, logic_answers, name_codes, point}
use Rattle.meaning_points.specs.Constructs.{module_of, device, diagram, goto, item, pin, pins, state}
use Rattle.meaning_points.specs.Trees.{number, set, span, word}

-- the module as a tree
abbrev source : ModuleTree
source =
    module_of (codes "five_states_dont_care")
    (device "u" "'GAL22V10'"
    ∷ pins (item "q2" ∷ item "q1" ∷ item "q0" ∷ []) (pin 23 ∷ pin 22 ∷ pin 21 ∷ [])
    (word "'reg,buffer,dc'" ∷ [])
    ∷ [])
    (diagram (set (span "q2" "q0" ∷ []))
    (state (number 0) [] (goto (number 1) ∷ [])
    ∷ state (number 1) [] (goto (number 2) ∷ [])
    ∷ state (number 2) [] (goto (number 3) ∷ [])
    ∷ state (number 3) [] (goto (number 4) ∷ [])
    ∷ state (number 4) [] (goto (number 0) ∷ [])
    ∷ [])
    ∷ [])

-- what each name is
names : name_codes (design_of gal22v10 source).context
    ≡ (48000 ∷ 751 ∷ 719 ∷ 687 ∷ [])
unfolding digits
names = refl

-- at a point, by the logic itself
at0 : logic_answers (source_logic gal22v10 source) (point 2853632 132 0) 0
    ≡ (71 ∷ 135 ∷ 75 ∷ 8 ∷ 8 ∷ 8 ∷ 8 ∷ 8 ∷ 8 ∷ 8 ∷ [])
unfolding digits
at0 = refl

-- at a second point
at1 : answers (design_of gal22v10 source) (point 6635564 137 0) 0
    ≡ (75 ∷ 71 ∷ 71 ∷ 8 ∷ 8 ∷ 8 ∷ 8 ∷ 8 ∷ 8 ∷ 8 ∷ 2 ∷ 0 ∷ 0 ∷ 0 ∷ [])
unfolding digits
at1 = refl

-- at a third
at2 : answers (design_of gal22v10 source) (point 27912228 494 0) 0
    ≡ (135 ∷ 75 ∷ 75 ∷ 8 ∷ 8 ∷ 8 ∷ 8 ∷ 8 ∷ 8 ∷ 8 ∷ 2 ∷ 1 ∷ 0 ∷ 0 ∷ [])
unfolding digits
at2 = refl

-- which signals each one reads, and which its reset reads
reads : all_reads (design_of gal22v10 source)
    ≡ (([]) ∷ ([]) ∷ ([]) ∷ ([]) ∷ ([]) ∷ ([]) ∷ ([]) ∷ ([]) ∷ [])
unfolding digits make_not make_and make_or make_xor
reads = refl

-- the folded formulas, as numbers
trees : all_trees (design_of gal22v10 source)
    ≡ (([]) ∷ (17395 ∷ 4586 ∷ 0 ∷ 0 ∷ 0 ∷ 0 ∷ []) ∷ (409694 ∷ 4586 ∷ 0 ∷ 0 ∷ 0 ∷ 0 ∷ []) ∷ (451531 ∷ 4586 ∷ 0
    ∷ 0 ∷ 0 ∷ 0 ∷ []) ∷ [])
unfolding digits make_not make_and make_or make_xor
trees = refl

-- the nodes of each unit
units : units_of (design_of gal22v10 source)
    ≡ (8 ∷ 0 ∷ 7 ∷ 0 ∷ 7 ∷ 0 ∷ 6 ∷ 0 ∷ 7 ∷ 0 ∷ [])
unfolding digits make_not make_and make_or make_xor
units = refl
