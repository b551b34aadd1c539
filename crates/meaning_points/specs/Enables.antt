-- Which pins are driven, worked by hand.
-- module enables
-- d device 'P16R4';
-- clk,oe,a,b pin 1,11,2,3; y,z pin 19,18; q pin 17 istype 'reg'; w pin 13;
-- equations
-- y = b; y.OE = a; z = b; q := b;
-- end
use Rattle.std.specs.Prelude.{◌≡◌, true, false, [], ◌∷◌, codes}
use Rattle.meaning_points.specs.Prelude.{digits, ModuleTree, Equations, Design, design_of, pal16r4}
use Rattle.std.proofs.Common.{refl}
use Rattle.abel_tree.specs.declared.words.Extension.TheVariants as extension
use Rattle.meaning_points.specs.ByHand.{points_of, pin_may_be, next_may_be, is_driven, at_each}
use Rattle.meaning_points.specs.Constructs.{assign, clocked, item, pin, device, pins, module_of}
use Rattle.meaning_points.specs.Trees.{word, name, dotted}

-- the module as a tree
abbrev source : ModuleTree
source =
    module_of (codes "enables")
    (device "d" "'P16R4'"
    ∷ pins (item "clk" ∷ item "oe" ∷ item "a" ∷ item "b" ∷ []) (pin 1 ∷ pin 11 ∷ pin 2 ∷ pin 3 ∷ []) []
    ∷ pins (item "y" ∷ item "z" ∷ []) (pin 19 ∷ pin 18 ∷ []) []
    ∷ pins (item "q" ∷ []) (pin 17 ∷ []) (word "'reg'" ∷ [])
    ∷ pins (item "w" ∷ []) (pin 13 ∷ []) []
    ∷ [])
    (Equations
    (assign (name "y") (name "b")
    ∷ assign (dotted "y" extension.Oe) (name "a")
    ∷ assign (name "z") (name "b")
    ∷ clocked (name "q") (name "b")
    ∷ [])
    ∷ [])

-- its design
abbrev d : Design
d = design_of pal16r4 source

-- y has an enable: pins 2 and 11 count up
y_drives : at_each (points_of (2 ∷ 11 ∷ []) [] []) (is_driven d "y") ≡ (false ∷ false ∷ true ∷ true ∷ [])
unfolding digits
y_drives = refl

-- z has none, so it is always driven
z_drives : at_each (points_of (2 ∷ 11 ∷ []) [] []) (is_driven d "z") ≡ (true ∷ true ∷ true ∷ true ∷ [])
unfolding digits
z_drives = refl

-- a register of this device while pin 11 is low
q_drives : at_each (points_of (2 ∷ 11 ∷ []) [] []) (is_driven d "q") ≡ (true ∷ false ∷ true ∷ false ∷ [])
unfolding digits
q_drives = refl

-- a pin that is assigned nothing never
w_drives : at_each (points_of (2 ∷ 11 ∷ []) [] []) (is_driven d "w") ≡ (false ∷ false ∷ false ∷ false ∷ [])
unfolding digits
w_drives = refl

-- the register's pin has the complement of its Q, here cell 2
q_pin : at_each (points_of (3 ∷ []) (2 ∷ []) []) (pin_may_be d "q") ≡ ((0 ∷ []) ∷ (0 ∷ []) ∷ [])
unfolding digits
q_pin = refl

-- and q is to be b
q_next : at_each (points_of (3 ∷ []) [] []) (next_may_be d "q") ≡ ((1 ∷ []) ∷ (0 ∷ []) ∷ [])
unfolding digits
q_next = refl
