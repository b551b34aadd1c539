-- Names declared twice: sources as trees, and what a second implementation of the language answers.
use Rattle.std.proofs.Common.{◌≡◌, Some, [], ◌∷◌, refl, codes}
use Rattle.decls.proofs.Common.{digits, is_before, ADevice, SomePins, SomeNodes, SomeConstants, Equations, first_name_refusal}
use Rattle.decls.specs.declared.fault.NameFault.TheVariants as fault
use Rattle.decls.proofs.WrittenModules.{at, word, number, name, assign, item, items, pin, pins_to, module_of, pal16l8}

-- d device 'P16L8'; e device 'P14L4';
pub e0 : first_name_refusal pal16l8
    (module_of (ADevice (word 1 10 "d") (word 1 19 "'P16L8'") ∷ ADevice (word 2 1 "e") (word 2 10 "'P14L4'") ∷
    []) [])
    ≡ Some (fault.Redeclared (at 2 1) (codes "e"))
unfolding is_before digits
e0 = refl

-- d device 'P16L8'; a pin 1; a pin 2;
pub e1 : first_name_refusal pal16l8
    (module_of (ADevice (word 1 10 "d") (word 1 19 "'P16L8'") ∷ SomePins (item 2 1 "a" ∷ []) (pin 1 ∷ []) [] ∷
    SomePins (item 2 10 "a" ∷ []) (pin 2 ∷ []) [] ∷ []) [])
    ≡ Some (fault.Redeclared (at 2 10) (codes "a"))
unfolding is_before digits
e1 = refl

-- d device 'P16L8'; a,a pin 1,2;
pub e2 : first_name_refusal pal16l8
    (module_of (ADevice (word 1 10 "d") (word 1 19 "'P16L8'") ∷ SomePins (item 2 1 "a" ∷ item 2 3 "a" ∷ []) (pin
    1 ∷ pin 2 ∷ []) [] ∷ []) [])
    ≡ Some (fault.Redeclared (at 2 3) (codes "a"))
unfolding is_before digits
e2 = refl

-- d device 'P16L8'; a pin 1; a node;
pub e3 : first_name_refusal pal16l8
    (module_of (ADevice (word 1 10 "d") (word 1 19 "'P16L8'") ∷ SomePins (item 2 1 "a" ∷ []) (pin 1 ∷ []) [] ∷
    SomeNodes (item 2 10 "a" ∷ []) [] [] ∷ []) [])
    ≡ Some (fault.Redeclared (at 2 10) (codes "a"))
unfolding is_before digits
e3 = refl

-- d device 'P16L8'; a pin 1; a = 1;
pub e4 : first_name_refusal pal16l8
    (module_of (ADevice (word 1 10 "d") (word 1 19 "'P16L8'") ∷ SomePins (item 2 1 "a" ∷ []) (pin 1 ∷ []) [] ∷
    SomeConstants (word 2 10 "a" ∷ []) (number 1 ∷ []) ∷ []) [])
    ≡ Some (fault.Redeclared (at 2 10) (codes "a"))
unfolding is_before digits
e4 = refl

-- d device 'P16L8'; a,a = 1,2;
pub e5 : first_name_refusal pal16l8
    (module_of (ADevice (word 1 10 "d") (word 1 19 "'P16L8'") ∷ SomeConstants (word 2 1 "a" ∷ word 2 3 "a" ∷ [])
    (number 1 ∷ number 2 ∷ []) ∷ []) [])
    ≡ Some (fault.Redeclared (at 2 3) (codes "a"))
unfolding is_before digits
e5 = refl

-- d device 'P16L8'; d pin 1;
pub e6 : first_name_refusal pal16l8
    (module_of (ADevice (word 1 10 "d") (word 1 19 "'P16L8'") ∷ SomePins (item 2 1 "d" ∷ []) (pin 1 ∷ []) [] ∷
    []) [])
    ≡ Some (fault.Redeclared (at 2 1) (codes "d"))
unfolding is_before digits
e6 = refl

-- d device 'P16L8'; d = 1;
pub e7 : first_name_refusal pal16l8
    (module_of (ADevice (word 1 10 "d") (word 1 19 "'P16L8'") ∷ SomeConstants (word 2 1 "d" ∷ []) (number 1 ∷
    []) ∷ []) [])
    ≡ Some (fault.Redeclared (at 2 1) (codes "d"))
unfolding is_before digits
e7 = refl

-- d device 'P16L8'; e device 'P16L8';
pub e8 : first_name_refusal pal16l8
    (module_of (ADevice (word 1 10 "d") (word 1 19 "'P16L8'") ∷ ADevice (word 2 1 "e") (word 2 10 "'P16L8'") ∷
    []) [])
    ≡ Some (fault.Redeclared (at 2 1) (codes "e"))
unfolding is_before digits
e8 = refl

-- d device 'P16L8'; d device 'P16L8';
pub e9 : first_name_refusal pal16l8
    (module_of (ADevice (word 1 10 "d") (word 1 19 "'P16L8'") ∷ ADevice (word 2 1 "d") (word 2 10 "'P16L8'") ∷
    []) [])
    ≡ Some (fault.Redeclared (at 2 1) (codes "d"))
unfolding is_before digits
e9 = refl

-- d device 'P16L8'; q0..q3 pin 1..4; q5..q2 node;
pub e10 : first_name_refusal pal16l8
    (module_of (ADevice (word 1 10 "d") (word 1 19 "'P16L8'") ∷ SomePins (items 2 1 "q0" 2 5 "q3" ∷ []) (pins_to
    1 4 ∷ []) [] ∷ SomeNodes (items 2 18 "q5" 2 22 "q2" ∷ []) [] [] ∷ []) [])
    ≡ Some (fault.Redeclared (at 2 18) (codes "q3"))
unfolding is_before digits
e10 = refl

-- d device 'P16L8'; q1 pin 1; q0..q3 pin 2..5;
pub e11 : first_name_refusal pal16l8
    (module_of (ADevice (word 1 10 "d") (word 1 19 "'P16L8'") ∷ SomePins (item 2 1 "q1" ∷ []) (pin 1 ∷ []) [] ∷
    SomePins (items 2 11 "q0" 2 15 "q3" ∷ []) (pins_to 2 5 ∷ []) [] ∷ []) [])
    ≡ Some (fault.Redeclared (at 2 11) (codes "q1"))
unfolding is_before digits
e11 = refl

-- d device 'P16L8'; a pin 1; a pin 0;
pub e12 : first_name_refusal pal16l8
    (module_of (ADevice (word 1 10 "d") (word 1 19 "'P16L8'") ∷ SomePins (item 2 1 "a" ∷ []) (pin 1 ∷ []) [] ∷
    SomePins (item 2 10 "a" ∷ []) (pin 0 ∷ []) [] ∷ []) [])
    ≡ Some (fault.Redeclared (at 2 10) (codes "a"))
unfolding is_before digits
e12 = refl

-- d device 'P16L8'; a pin 1; a pin 1;
pub e13 : first_name_refusal pal16l8
    (module_of (ADevice (word 1 10 "d") (word 1 19 "'P16L8'") ∷ SomePins (item 2 1 "a" ∷ []) (pin 1 ∷ []) [] ∷
    SomePins (item 2 10 "a" ∷ []) (pin 1 ∷ []) [] ∷ []) [])
    ≡ Some (fault.Redeclared (at 2 10) (codes "a"))
unfolding is_before digits
e13 = refl

-- d device 'P16L8'; q2 pin 1; q0..q3 pin 9..12;
pub e14 : first_name_refusal pal16l8
    (module_of (ADevice (word 1 10 "d") (word 1 19 "'P16L8'") ∷ SomePins (item 2 1 "q2" ∷ []) (pin 1 ∷ []) [] ∷
    SomePins (items 2 11 "q0" 2 15 "q3" ∷ []) (pins_to 9 12 ∷ []) [] ∷ []) [])
    ≡ Some (fault.Redeclared (at 2 11) (codes "q2"))
unfolding is_before digits
e14 = refl

-- d device 'P16L8'; b,b pin 1,2; EQUATIONS a = 1;
pub e15 : first_name_refusal pal16l8
    (module_of (ADevice (word 1 10 "d") (word 1 19 "'P16L8'") ∷ SomePins (item 2 1 "b" ∷ item 2 3 "b" ∷ []) (pin
    1 ∷ pin 2 ∷ []) [] ∷ []) (Equations (assign (name 2 24 "a") (number 1) ∷ []) ∷ []))
    ≡ Some (fault.Redeclared (at 2 3) (codes "b"))
unfolding is_before digits
e15 = refl
