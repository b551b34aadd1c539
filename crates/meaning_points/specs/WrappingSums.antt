-- Arithmetic that wraps, worked by hand.
-- module wrapping_sums
-- d device 'GAL22V10';
-- a,b,c,e pin 2,3,4,5; S = [a,b]; T = [c,e];
-- end
use Rattle.std.specs.Prelude.{◌≡◌, [], ◌∷◌, map, codes}
use Rattle.meaning_points.specs.Prelude.{digits, ModuleTree, Design, design_of, gal22v10}
use Rattle.std.proofs.Common.{refl}
use Rattle.meaning_points.specs.ByHand.{parts_of, point_at, points_of, number_of, at_each}
use Rattle.meaning_points.specs.Constructs.{item, pins_to, device, pins, constants, module_of}
use Rattle.meaning_points.specs.Trees.{word, number, name, set, one, negative, differ, plus, minus, times, over, rest, shift_left}

-- the module as a tree
abbrev source : ModuleTree
source =
    module_of (codes "wrapping_sums")
    (device "d" "'GAL22V10'"
    ∷ pins (item "a" ∷ item "b" ∷ item "c" ∷ item "e" ∷ []) (pins_to 2 5 ∷ []) []
    ∷ constants (word "S" ∷ word "T" ∷ [])
    (set (one (name "a") ∷ one (name "b") ∷ []) ∷ set (one (name "c") ∷ one (name "e") ∷ []) ∷ [])
    ∷ [])
    []

-- its design
abbrev d : Design
d = design_of gal22v10 source

-- S + 1 modulo 4
one_more : at_each (points_of (2 ∷ 3 ∷ []) [] []) (number_of d.context (plus (name "S") (number 1))) ≡ (1 ∷ 2 ∷ 3 ∷ 0 ∷ [])
unfolding digits
one_more = refl

-- -S is two's complement in two bits
negatives : at_each (points_of (2 ∷ 3 ∷ []) [] []) (number_of d.context (negative (name "S"))) ≡ (0 ∷ 3 ∷ 2 ∷ 1 ∷ [])
unfolding digits
negatives = refl

-- S - T modulo 4 where T is 3
differences : at_each (map (λ part. point_at (4 ∷ 5 ∷ part) [] []) (parts_of (2 ∷ 3 ∷ []))) (number_of d.context (minus (name "S") (name "T"))) ≡ (1 ∷ 2 ∷ 3 ∷ 0 ∷ [])
unfolding digits
differences = refl

-- a number that meets a set is cut to its width: S + 7 is S + 3
cut : at_each (points_of (2 ∷ 3 ∷ []) [] []) (number_of d.context (plus (name "S") (number 7))) ≡ (3 ∷ 0 ∷ 1 ∷ 2 ∷ [])
unfolding digits
cut = refl

-- one bit that meets a set is spread: S $ a
spread : at_each (points_of (2 ∷ 3 ∷ []) [] []) (number_of d.context (differ (name "S") (name "a"))) ≡ (0 ∷ 1 ∷ 1 ∷ 0 ∷ [])
unfolding digits
spread = refl

-- numbers have 32 bits: 5 - 7
below_zero : number_of d.context (minus (number 5) (number 7)) (point_at [] [] []) ≡ 4294967294
unfolding digits
below_zero = refl

-- 65536 * 65537 modulo 2 to the 32
wide_product : number_of d.context (times (number 65536) (number 65537)) (point_at [] [] []) ≡ 65536
unfolding digits
wide_product = refl

-- a shift of 32 gives 0
far_shift : number_of d.context (shift_left (number 1) (number 32)) (point_at [] [] []) ≡ 0
unfolding digits
far_shift = refl

-- a shift of 31 does not
near_shift : number_of d.context (shift_left (number 3) (number 31)) (point_at [] [] []) ≡ 2147483648
unfolding digits
near_shift = refl

-- 100 % 7, then / 2
remainder : number_of d.context (over (rest (number 100) (number 7)) (number 2)) (point_at [] [] []) ≡ 1
unfolding digits
remainder = refl
