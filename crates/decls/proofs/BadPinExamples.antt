-- Pins that no name may have, and counts that differ: sources as trees, and what a second implementation of the language answers.
use Rattle.std.proofs.Common.{◌≡◌, Some, None, [], ◌∷◌, refl, codes}
use Rattle.decls.proofs.Common.{digits, is_before, ADevice, SomePins, SomeNodes, first_name_refusal}
use Rattle.decls.specs.declared.fault.NameFault.TheVariants as fault
use Rattle.decls.proofs.WrittenModules.{at, word, item, items, pin, pins_to, module_of, pal16l8, pal16r4, pal16r6, pal16r8, gal22v10}

-- d device 'P16L8'; b,a pin 1,0;
pub e0 : first_name_refusal pal16l8
    (module_of (ADevice (word 1 10 "d") (word 1 19 "'P16L8'") ∷ SomePins (item 2 1 "b" ∷ item 2 3 "a" ∷ []) (pin
    1 ∷ pin 0 ∷ []) [] ∷ []) [])
    ≡ Some (fault.BadPin (at 2 3) (codes "a"))
unfolding is_before digits
e0 = refl

-- d device 'P16L8'; b,a pin 1,10;
pub e1 : first_name_refusal pal16l8
    (module_of (ADevice (word 1 10 "d") (word 1 19 "'P16L8'") ∷ SomePins (item 2 1 "b" ∷ item 2 3 "a" ∷ []) (pin
    1 ∷ pin 10 ∷ []) [] ∷ []) [])
    ≡ Some (fault.BadPin (at 2 3) (codes "a"))
unfolding is_before digits
e1 = refl

-- d device 'P16L8'; b,a pin 1,20;
pub e2 : first_name_refusal pal16l8
    (module_of (ADevice (word 1 10 "d") (word 1 19 "'P16L8'") ∷ SomePins (item 2 1 "b" ∷ item 2 3 "a" ∷ []) (pin
    1 ∷ pin 20 ∷ []) [] ∷ []) [])
    ≡ Some (fault.BadPin (at 2 3) (codes "a"))
unfolding is_before digits
e2 = refl

-- d device 'P16L8'; b,a pin 1,21;
pub e3 : first_name_refusal pal16l8
    (module_of (ADevice (word 1 10 "d") (word 1 19 "'P16L8'") ∷ SomePins (item 2 1 "b" ∷ item 2 3 "a" ∷ []) (pin
    1 ∷ pin 21 ∷ []) [] ∷ []) [])
    ≡ Some (fault.BadPin (at 2 3) (codes "a"))
unfolding is_before digits
e3 = refl

-- d device 'P16L8'; b,a pin 1,4294967295;
pub e4 : first_name_refusal pal16l8
    (module_of (ADevice (word 1 10 "d") (word 1 19 "'P16L8'") ∷ SomePins (item 2 1 "b" ∷ item 2 3 "a" ∷ []) (pin
    1 ∷ pin 4294967295 ∷ []) [] ∷ []) [])
    ≡ Some (fault.BadPin (at 2 3) (codes "a"))
unfolding is_before digits
e4 = refl

-- d device 'GAL22V10'; b,a pin 1,0;
pub e5 : first_name_refusal gal22v10
    (module_of (ADevice (word 1 10 "d") (word 1 19 "'GAL22V10'") ∷ SomePins (item 2 1 "b" ∷ item 2 3 "a" ∷ [])
    (pin 1 ∷ pin 0 ∷ []) [] ∷ []) [])
    ≡ Some (fault.BadPin (at 2 3) (codes "a"))
unfolding is_before digits
e5 = refl

-- d device 'GAL22V10'; b,a pin 1,12;
pub e6 : first_name_refusal gal22v10
    (module_of (ADevice (word 1 10 "d") (word 1 19 "'GAL22V10'") ∷ SomePins (item 2 1 "b" ∷ item 2 3 "a" ∷ [])
    (pin 1 ∷ pin 12 ∷ []) [] ∷ []) [])
    ≡ Some (fault.BadPin (at 2 3) (codes "a"))
unfolding is_before digits
e6 = refl

-- d device 'GAL22V10'; b,a pin 1,24;
pub e7 : first_name_refusal gal22v10
    (module_of (ADevice (word 1 10 "d") (word 1 19 "'GAL22V10'") ∷ SomePins (item 2 1 "b" ∷ item 2 3 "a" ∷ [])
    (pin 1 ∷ pin 24 ∷ []) [] ∷ []) [])
    ≡ Some (fault.BadPin (at 2 3) (codes "a"))
unfolding is_before digits
e7 = refl

-- d device 'GAL22V10'; b,a pin 1,4294967295;
pub e8 : first_name_refusal gal22v10
    (module_of (ADevice (word 1 10 "d") (word 1 19 "'GAL22V10'") ∷ SomePins (item 2 1 "b" ∷ item 2 3 "a" ∷ [])
    (pin 1 ∷ pin 4294967295 ∷ []) [] ∷ []) [])
    ≡ Some (fault.BadPin (at 2 3) (codes "a"))
unfolding is_before digits
e8 = refl

-- d device 'P16R4'; a pin 20;
pub e9 : first_name_refusal pal16r4
    (module_of (ADevice (word 1 10 "d") (word 1 19 "'P16R4'") ∷ SomePins (item 2 1 "a" ∷ []) (pin 20 ∷ []) [] ∷
    []) [])
    ≡ Some (fault.BadPin (at 2 1) (codes "a"))
unfolding is_before digits
e9 = refl

-- d device 'P16R6'; a pin 20;
pub e10 : first_name_refusal pal16r6
    (module_of (ADevice (word 1 10 "d") (word 1 19 "'P16R6'") ∷ SomePins (item 2 1 "a" ∷ []) (pin 20 ∷ []) [] ∷
    []) [])
    ≡ Some (fault.BadPin (at 2 1) (codes "a"))
unfolding is_before digits
e10 = refl

-- d device 'P16R8'; a pin 20;
pub e11 : first_name_refusal pal16r8
    (module_of (ADevice (word 1 10 "d") (word 1 19 "'P16R8'") ∷ SomePins (item 2 1 "a" ∷ []) (pin 20 ∷ []) [] ∷
    []) [])
    ≡ Some (fault.BadPin (at 2 1) (codes "a"))
unfolding is_before digits
e11 = refl

-- d device 'P16L8'; a,b pin;
pub e12 : first_name_refusal pal16l8
    (module_of (ADevice (word 1 10 "d") (word 1 19 "'P16L8'") ∷ SomePins (item 2 1 "a" ∷ item 2 3 "b" ∷ []) []
    [] ∷ []) [])
    ≡ None
unfolding is_before digits
e12 = refl

-- d device 'P16L8'; a,b pin 1;
pub e13 : first_name_refusal pal16l8
    (module_of (ADevice (word 1 10 "d") (word 1 19 "'P16L8'") ∷ SomePins (item 2 1 "a" ∷ item 2 3 "b" ∷ []) (pin
    1 ∷ []) [] ∷ []) [])
    ≡ Some (fault.BadPin (at 2 1) (codes "a"))
unfolding is_before digits
e13 = refl

-- d device 'P16L8'; a pin 1,2;
pub e14 : first_name_refusal pal16l8
    (module_of (ADevice (word 1 10 "d") (word 1 19 "'P16L8'") ∷ SomePins (item 2 1 "a" ∷ []) (pin 1 ∷ pin 2 ∷
    []) [] ∷ []) [])
    ≡ Some (fault.BadPin (at 2 1) (codes "a"))
unfolding is_before digits
e14 = refl

-- d device 'P16L8'; a,b pin 1..3;
pub e15 : first_name_refusal pal16l8
    (module_of (ADevice (word 1 10 "d") (word 1 19 "'P16L8'") ∷ SomePins (item 2 1 "a" ∷ item 2 3 "b" ∷ [])
    (pins_to 1 3 ∷ []) [] ∷ []) [])
    ≡ Some (fault.BadPin (at 2 1) (codes "a"))
unfolding is_before digits
e15 = refl

-- d device 'P16L8'; a pin 0..4294967295;
pub e16 : first_name_refusal pal16l8
    (module_of (ADevice (word 1 10 "d") (word 1 19 "'P16L8'") ∷ SomePins (item 2 1 "a" ∷ []) (pins_to 0
    4294967295 ∷ []) [] ∷ []) [])
    ≡ Some (fault.BadPin (at 2 1) (codes "a"))
unfolding is_before digits
e16 = refl

-- d device 'P16L8'; a,b pin 4294967295..4294967294;
pub e17 : first_name_refusal pal16l8
    (module_of (ADevice (word 1 10 "d") (word 1 19 "'P16L8'") ∷ SomePins (item 2 1 "a" ∷ item 2 3 "b" ∷ [])
    (pins_to 4294967295 4294967294 ∷ []) [] ∷ []) [])
    ≡ Some (fault.BadPin (at 2 1) (codes "a"))
unfolding is_before digits
e17 = refl

-- d device 'P16L8'; a1..a4 pin 8..11;
pub e18 : first_name_refusal pal16l8
    (module_of (ADevice (word 1 10 "d") (word 1 19 "'P16L8'") ∷ SomePins (items 2 1 "a1" 2 5 "a4" ∷ []) (pins_to
    8 11 ∷ []) [] ∷ []) [])
    ≡ Some (fault.BadPin (at 2 1) (codes "a3"))
unfolding is_before digits
e18 = refl

-- d device 'P16L8'; a1..a4 pin 11..8;
pub e19 : first_name_refusal pal16l8
    (module_of (ADevice (word 1 10 "d") (word 1 19 "'P16L8'") ∷ SomePins (items 2 1 "a1" 2 5 "a4" ∷ []) (pins_to
    11 8 ∷ []) [] ∷ []) [])
    ≡ Some (fault.BadPin (at 2 1) (codes "a2"))
unfolding is_before digits
e19 = refl

-- d device 'P16L8'; a,b node 1,2;
pub e20 : first_name_refusal pal16l8
    (module_of (ADevice (word 1 10 "d") (word 1 19 "'P16L8'") ∷ SomeNodes (item 2 1 "a" ∷ item 2 3 "b" ∷ [])
    (pin 1 ∷ pin 2 ∷ []) [] ∷ []) [])
    ≡ Some (fault.BadPin (at 2 1) (codes "a"))
unfolding is_before digits
e20 = refl

-- d device 'P16L8'; a,b node 1,2,3;
pub e21 : first_name_refusal pal16l8
    (module_of (ADevice (word 1 10 "d") (word 1 19 "'P16L8'") ∷ SomeNodes (item 2 1 "a" ∷ item 2 3 "b" ∷ [])
    (pin 1 ∷ pin 2 ∷ pin 3 ∷ []) [] ∷ []) [])
    ≡ Some (fault.BadPin (at 2 1) (codes "a"))
unfolding is_before digits
e21 = refl

-- d device 'P16L8'; x,a..b pin 10,2,3;
pub e22 : first_name_refusal pal16l8
    (module_of (ADevice (word 1 10 "d") (word 1 19 "'P16L8'") ∷ SomePins (item 2 1 "x" ∷ items 2 3 "a" 2 6 "b" ∷
    []) (pin 10 ∷ pin 2 ∷ pin 3 ∷ []) [] ∷ []) [])
    ≡ Some (fault.BadPin (at 2 1) (codes "x"))
unfolding is_before digits
e22 = refl

-- d device 'P16L8'; a pin 3; b1..b3 pin 9..11; c pin 3;
pub e23 : first_name_refusal pal16l8
    (module_of (ADevice (word 1 10 "d") (word 1 19 "'P16L8'") ∷ SomePins (item 2 1 "a" ∷ []) (pin 3 ∷ []) [] ∷
    SomePins (items 2 10 "b1" 2 14 "b3" ∷ []) (pins_to 9 11 ∷ []) [] ∷ SomePins (item 2 28 "c" ∷ []) (pin 3 ∷
    []) [] ∷ []) [])
    ≡ Some (fault.BadPin (at 2 10) (codes "b2"))
unfolding is_before digits
e23 = refl
