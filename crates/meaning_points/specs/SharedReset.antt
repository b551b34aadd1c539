-- One reset and one preset for all registers, worked by hand.
-- module shared_reset
-- d device 'GAL22V10';
-- clk,a,b pin 1,2,3; q0,q1,q2 pin 23,22,21 istype 'reg'; y pin 20;
-- equations
-- [q0,q1,q2] := 7; q1.AR = a; q2.AR = b; q2.SP = a & b; y = a;
-- end
use Rattle.std.specs.Prelude.{◌≡◌, true, false, [], ◌∷◌, codes}
use Rattle.meaning_points.specs.Prelude.{digits, ModuleTree, Equations, Design, design_of, gal22v10}
use Rattle.std.proofs.Common.{refl}
use Rattle.abel_tree.specs.declared.words.Extension.TheVariants as extension
use Rattle.meaning_points.specs.ByHand.{points_of, next_may_be, is_reset, is_preset, at_each}
use Rattle.meaning_points.specs.Constructs.{assign, clocked, item, pin, device, pins, module_of}
use Rattle.meaning_points.specs.Trees.{word, number, name, dotted, set, one, both}

-- the module as a tree
abbrev source : ModuleTree
source =
    module_of (codes "shared_reset")
    (device "d" "'GAL22V10'"
    ∷ pins (item "clk" ∷ item "a" ∷ item "b" ∷ []) (pin 1 ∷ pin 2 ∷ pin 3 ∷ []) []
    ∷ pins (item "q0" ∷ item "q1" ∷ item "q2" ∷ []) (pin 23 ∷ pin 22 ∷ pin 21 ∷ []) (word "'reg'" ∷ [])
    ∷ pins (item "y" ∷ []) (pin 20 ∷ []) []
    ∷ [])
    (Equations
    (clocked (set (one (name "q0") ∷ one (name "q1") ∷ one (name "q2") ∷ [])) (number 7)
    ∷ assign (dotted "q1" extension.Ar) (name "a")
    ∷ assign (dotted "q2" extension.Ar) (name "b")
    ∷ assign (dotted "q2" extension.Sp) (both (name "a") (name "b"))
    ∷ assign (name "y") (name "a")
    ∷ [])
    ∷ [])

-- its design
abbrev d : Design
d = design_of gal22v10 source

-- q0 has no equation of its own, so that of q1, the first register that has one
q0_reset : at_each (points_of (2 ∷ 3 ∷ []) [] []) (is_reset d "q0") ≡ (false ∷ false ∷ true ∷ true ∷ [])
unfolding digits
q0_reset = refl

-- q1 has its own
q1_reset : at_each (points_of (2 ∷ 3 ∷ []) [] []) (is_reset d "q1") ≡ (false ∷ false ∷ true ∷ true ∷ [])
unfolding digits
q1_reset = refl

-- and q2 its own
q2_reset : at_each (points_of (2 ∷ 3 ∷ []) [] []) (is_reset d "q2") ≡ (false ∷ true ∷ false ∷ true ∷ [])
unfolding digits
q2_reset = refl

-- all have the one preset equation
q0_preset : at_each (points_of (2 ∷ 3 ∷ []) [] []) (is_preset d "q0") ≡ (false ∷ false ∷ false ∷ true ∷ [])
unfolding digits
q0_preset = refl

-- also the one that says it
q2_preset : at_each (points_of (2 ∷ 3 ∷ []) [] []) (is_preset d "q2") ≡ (false ∷ false ∷ false ∷ true ∷ [])
unfolding digits
q2_preset = refl

-- each bit of 7 is 1
q0_next : at_each (points_of (2 ∷ []) [] []) (next_may_be d "q0") ≡ ((1 ∷ []) ∷ (1 ∷ []) ∷ [])
unfolding digits
q0_next = refl
