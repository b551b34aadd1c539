-- Ranges whose ends do not agree: sources as trees, and what a second implementation of the language answers.
use Rattle.std.proofs.Common.{◌≡◌, Some, [], ◌∷◌, refl}
use Rattle.decls.proofs.Common.{digits, is_before, ADevice, SomePins, SomeNodes, SomeAttributes, SomeConstants, Equations, first_name_refusal}
use Rattle.decls.specs.declared.fault.NameFault.TheVariants as fault
use Rattle.decls.proofs.WrittenModules.{at, word, number, span, set, assign, item, items, pin, module_of, pal16l8}

-- d device 'P16L8'; x pin 1; a..b node;
pub e0 : first_name_refusal pal16l8
    (module_of (ADevice (word 1 10 "d") (word 1 19 "'P16L8'") ∷ SomePins (item 2 1 "x" ∷ []) (pin 1 ∷ []) [] ∷
    SomeNodes (items 2 10 "a" 2 13 "b" ∷ []) [] [] ∷ []) [])
    ≡ Some (fault.BadRange (at 2 10))
unfolding is_before digits
e0 = refl

-- d device 'P16L8'; c = [a..b];
pub e1 : first_name_refusal pal16l8
    (module_of (ADevice (word 1 10 "d") (word 1 19 "'P16L8'") ∷ SomeConstants (word 2 1 "c" ∷ []) (set (span
    (word 2 6 "a") (word 2 9 "b") ∷ []) ∷ []) ∷ []) [])
    ≡ Some (fault.BadRange (at 2 6))
unfolding is_before digits
e1 = refl

-- d device 'P16L8'; x pin 1; a1..b2 node;
pub e2 : first_name_refusal pal16l8
    (module_of (ADevice (word 1 10 "d") (word 1 19 "'P16L8'") ∷ SomePins (item 2 1 "x" ∷ []) (pin 1 ∷ []) [] ∷
    SomeNodes (items 2 10 "a1" 2 14 "b2" ∷ []) [] [] ∷ []) [])
    ≡ Some (fault.BadRange (at 2 10))
unfolding is_before digits
e2 = refl

-- d device 'P16L8'; c = [a1..b2];
pub e3 : first_name_refusal pal16l8
    (module_of (ADevice (word 1 10 "d") (word 1 19 "'P16L8'") ∷ SomeConstants (word 2 1 "c" ∷ []) (set (span
    (word 2 6 "a1") (word 2 10 "b2") ∷ []) ∷ []) ∷ []) [])
    ≡ Some (fault.BadRange (at 2 6))
unfolding is_before digits
e3 = refl

-- d device 'P16L8'; x pin 1; a1..a node;
pub e4 : first_name_refusal pal16l8
    (module_of (ADevice (word 1 10 "d") (word 1 19 "'P16L8'") ∷ SomePins (item 2 1 "x" ∷ []) (pin 1 ∷ []) [] ∷
    SomeNodes (items 2 10 "a1" 2 14 "a" ∷ []) [] [] ∷ []) [])
    ≡ Some (fault.BadRange (at 2 10))
unfolding is_before digits
e4 = refl

-- d device 'P16L8'; x pin 1; EQUATIONS [a1..a] = 1;
pub e5 : first_name_refusal pal16l8
    (module_of (ADevice (word 1 10 "d") (word 1 19 "'P16L8'") ∷ SomePins (item 2 1 "x" ∷ []) (pin 1 ∷ []) [] ∷
    []) (Equations (assign (set (span (word 2 21 "a1") (word 2 25 "a") ∷ [])) (number 1) ∷ []) ∷ []))
    ≡ Some (fault.BadRange (at 2 21))
unfolding is_before digits
e5 = refl

-- d device 'P16L8'; x pin 1; a..a1 istype 'com';
pub e6 : first_name_refusal pal16l8
    (module_of (ADevice (word 1 10 "d") (word 1 19 "'P16L8'") ∷ SomePins (item 2 1 "x" ∷ []) (pin 1 ∷ []) [] ∷
    SomeAttributes (items 2 10 "a" 2 13 "a1" ∷ []) (word 2 23 "'com'" ∷ []) ∷ []) [])
    ≡ Some (fault.BadRange (at 2 10))
unfolding is_before digits
e6 = refl

-- d device 'P16L8'; x pin 1; EQUATIONS [a..a1] = 1;
pub e7 : first_name_refusal pal16l8
    (module_of (ADevice (word 1 10 "d") (word 1 19 "'P16L8'") ∷ SomePins (item 2 1 "x" ∷ []) (pin 1 ∷ []) [] ∷
    []) (Equations (assign (set (span (word 2 21 "a") (word 2 24 "a1") ∷ [])) (number 1) ∷ []) ∷ []))
    ≡ Some (fault.BadRange (at 2 21))
unfolding is_before digits
e7 = refl

-- d device 'P16L8'; x pin 1; a01..a2 istype 'com';
pub e8 : first_name_refusal pal16l8
    (module_of (ADevice (word 1 10 "d") (word 1 19 "'P16L8'") ∷ SomePins (item 2 1 "x" ∷ []) (pin 1 ∷ []) [] ∷
    SomeAttributes (items 2 10 "a01" 2 15 "a2" ∷ []) (word 2 25 "'com'" ∷ []) ∷ []) [])
    ≡ Some (fault.BadRange (at 2 10))
unfolding is_before digits
e8 = refl

-- d device 'P16L8'; x pin 1; a1..a02 node;
pub e9 : first_name_refusal pal16l8
    (module_of (ADevice (word 1 10 "d") (word 1 19 "'P16L8'") ∷ SomePins (item 2 1 "x" ∷ []) (pin 1 ∷ []) [] ∷
    SomeNodes (items 2 10 "a1" 2 14 "a02" ∷ []) [] [] ∷ []) [])
    ≡ Some (fault.BadRange (at 2 10))
unfolding is_before digits
e9 = refl

-- d device 'P16L8'; c = [a1..a02];
pub e10 : first_name_refusal pal16l8
    (module_of (ADevice (word 1 10 "d") (word 1 19 "'P16L8'") ∷ SomeConstants (word 2 1 "c" ∷ []) (set (span
    (word 2 6 "a1") (word 2 10 "a02") ∷ []) ∷ []) ∷ []) [])
    ≡ Some (fault.BadRange (at 2 6))
unfolding is_before digits
e10 = refl

-- d device 'P16L8'; x pin 1; a00..a1 node;
pub e11 : first_name_refusal pal16l8
    (module_of (ADevice (word 1 10 "d") (word 1 19 "'P16L8'") ∷ SomePins (item 2 1 "x" ∷ []) (pin 1 ∷ []) [] ∷
    SomeNodes (items 2 10 "a00" 2 15 "a1" ∷ []) [] [] ∷ []) [])
    ≡ Some (fault.BadRange (at 2 10))
unfolding is_before digits
e11 = refl

-- d device 'P16L8'; c = [a00..a1];
pub e12 : first_name_refusal pal16l8
    (module_of (ADevice (word 1 10 "d") (word 1 19 "'P16L8'") ∷ SomeConstants (word 2 1 "c" ∷ []) (set (span
    (word 2 6 "a00") (word 2 11 "a1") ∷ []) ∷ []) ∷ []) [])
    ≡ Some (fault.BadRange (at 2 6))
unfolding is_before digits
e12 = refl

-- d device 'P16L8'; x pin 1; a10000..a9999 node;
pub e13 : first_name_refusal pal16l8
    (module_of (ADevice (word 1 10 "d") (word 1 19 "'P16L8'") ∷ SomePins (item 2 1 "x" ∷ []) (pin 1 ∷ []) [] ∷
    SomeNodes (items 2 10 "a10000" 2 18 "a9999" ∷ []) [] [] ∷ []) [])
    ≡ Some (fault.BadRange (at 2 10))
unfolding is_before digits
e13 = refl

-- d device 'P16L8'; x pin 1; EQUATIONS [a10000..a9999] = 1;
pub e14 : first_name_refusal pal16l8
    (module_of (ADevice (word 1 10 "d") (word 1 19 "'P16L8'") ∷ SomePins (item 2 1 "x" ∷ []) (pin 1 ∷ []) [] ∷
    []) (Equations (assign (set (span (word 2 21 "a10000") (word 2 29 "a9999") ∷ [])) (number 1) ∷ []) ∷ []))
    ≡ Some (fault.BadRange (at 2 21))
unfolding is_before digits
e14 = refl

-- d device 'P16L8'; x pin 1; a1b..a3b istype 'com';
pub e15 : first_name_refusal pal16l8
    (module_of (ADevice (word 1 10 "d") (word 1 19 "'P16L8'") ∷ SomePins (item 2 1 "x" ∷ []) (pin 1 ∷ []) [] ∷
    SomeAttributes (items 2 10 "a1b" 2 15 "a3b" ∷ []) (word 2 26 "'com'" ∷ []) ∷ []) [])
    ≡ Some (fault.BadRange (at 2 10))
unfolding is_before digits
e15 = refl

-- d device 'P16L8'; x pin 1; EQUATIONS [a1b..a3b] = 1;
pub e16 : first_name_refusal pal16l8
    (module_of (ADevice (word 1 10 "d") (word 1 19 "'P16L8'") ∷ SomePins (item 2 1 "x" ∷ []) (pin 1 ∷ []) [] ∷
    []) (Equations (assign (set (span (word 2 21 "a1b") (word 2 26 "a3b") ∷ [])) (number 1) ∷ []) ∷ []))
    ≡ Some (fault.BadRange (at 2 21))
unfolding is_before digits
e16 = refl

-- d device 'P16L8'; x pin 1; a1..A2 istype 'com';
pub e17 : first_name_refusal pal16l8
    (module_of (ADevice (word 1 10 "d") (word 1 19 "'P16L8'") ∷ SomePins (item 2 1 "x" ∷ []) (pin 1 ∷ []) [] ∷
    SomeAttributes (items 2 10 "a1" 2 14 "A2" ∷ []) (word 2 24 "'com'" ∷ []) ∷ []) [])
    ≡ Some (fault.BadRange (at 2 10))
unfolding is_before digits
e17 = refl

-- d device 'P16L8'; x pin 1; a1..a1_ node;
pub e18 : first_name_refusal pal16l8
    (module_of (ADevice (word 1 10 "d") (word 1 19 "'P16L8'") ∷ SomePins (item 2 1 "x" ∷ []) (pin 1 ∷ []) [] ∷
    SomeNodes (items 2 10 "a1" 2 14 "a1_" ∷ []) [] [] ∷ []) [])
    ≡ Some (fault.BadRange (at 2 10))
unfolding is_before digits
e18 = refl

-- d device 'P16L8'; c = [a1..a1_];
pub e19 : first_name_refusal pal16l8
    (module_of (ADevice (word 1 10 "d") (word 1 19 "'P16L8'") ∷ SomeConstants (word 2 1 "c" ∷ []) (set (span
    (word 2 6 "a1") (word 2 10 "a1_") ∷ []) ∷ []) ∷ []) [])
    ≡ Some (fault.BadRange (at 2 6))
unfolding is_before digits
e19 = refl

-- d device 'P16L8'; x pin 1; a00001..a2 node;
pub e20 : first_name_refusal pal16l8
    (module_of (ADevice (word 1 10 "d") (word 1 19 "'P16L8'") ∷ SomePins (item 2 1 "x" ∷ []) (pin 1 ∷ []) [] ∷
    SomeNodes (items 2 10 "a00001" 2 18 "a2" ∷ []) [] [] ∷ []) [])
    ≡ Some (fault.BadRange (at 2 10))
unfolding is_before digits
e20 = refl

-- d device 'P16L8'; c = [a00001..a2];
pub e21 : first_name_refusal pal16l8
    (module_of (ADevice (word 1 10 "d") (word 1 19 "'P16L8'") ∷ SomeConstants (word 2 1 "c" ∷ []) (set (span
    (word 2 6 "a00001") (word 2 14 "a2") ∷ []) ∷ []) ∷ []) [])
    ≡ Some (fault.BadRange (at 2 6))
unfolding is_before digits
e21 = refl
