-- Names that are the complements of their pins, worked by hand.
-- module low_names
-- d device 'P16L8';
-- !rd,!cs,a pin 2,3,4; !en,!sel pin 18,17;
-- equations
-- en = rd & cs; !sel = a & en;
-- end
use Rattle.std.specs.Prelude.{◌≡◌, [], ◌∷◌, codes}
use Rattle.meaning_points.specs.Prelude.{digits, ModuleTree, Equations, Design, design_of, pal16l8}
use Rattle.std.proofs.Common.{refl}
use Rattle.meaning_points.specs.ByHand.{points_of, may_be, pin_may_be, at_each}
use Rattle.meaning_points.specs.Constructs.{assign, not_assign, item, low_item, pin, device, pins, module_of}
use Rattle.meaning_points.specs.Trees.{name, both}

-- the module as a tree
abbrev source : ModuleTree
source =
    module_of (codes "low_names")
    (device "d" "'P16L8'"
    ∷ pins (low_item "rd" ∷ low_item "cs" ∷ item "a" ∷ []) (pin 2 ∷ pin 3 ∷ pin 4 ∷ []) []
    ∷ pins (low_item "en" ∷ low_item "sel" ∷ []) (pin 18 ∷ pin 17 ∷ []) []
    ∷ [])
    (Equations
    (assign (name "en") (both (name "rd") (name "cs"))
    ∷ not_assign (name "sel") (both (name "a") (name "en"))
    ∷ [])
    ∷ [])

-- its design
abbrev d : Design
d = design_of pal16l8 source

-- en holds where pins 2 and 3 are both low
en_has : at_each (points_of (2 ∷ 3 ∷ []) [] []) (may_be d "en") ≡ ((1 ∷ []) ∷ (0 ∷ []) ∷ (0 ∷ []) ∷ (0 ∷ []) ∷ [])
unfolding digits
en_has = refl

-- its pin is then low
en_pin : at_each (points_of (2 ∷ 3 ∷ []) [] []) (pin_may_be d "en") ≡ ((0 ∷ []) ∷ (1 ∷ []) ∷ (1 ∷ []) ∷ (1 ∷ []) ∷ [])
unfolding digits
en_pin = refl

-- sel is 0 if a holds and pin 18 is low: pins 4 and 18 count up
sel_has : at_each (points_of (4 ∷ 18 ∷ []) [] []) (may_be d "sel") ≡ ((1 ∷ []) ∷ (1 ∷ []) ∷ (0 ∷ []) ∷ (1 ∷ []) ∷ [])
unfolding digits
sel_has = refl

-- its pin is high there
sel_pin : at_each (points_of (4 ∷ 18 ∷ []) [] []) (pin_may_be d "sel") ≡ ((0 ∷ []) ∷ (0 ∷ []) ∷ (1 ∷ []) ∷ (0 ∷ []) ∷ [])
unfolding digits
sel_pin = refl
