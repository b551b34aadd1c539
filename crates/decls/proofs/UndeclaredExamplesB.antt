-- Names that are not declared before: sources as trees, and what a second implementation of the language answers.
use Rattle.std.proofs.Common.{◌≡◌, Some, [], ◌∷◌, refl, codes}
use Rattle.decls.proofs.Common.{digits, is_before, ADevice, SomePins, SomeAttributes, SomeConstants, Declarations, Equations, first_name_refusal}
use Rattle.decls.specs.declared.fault.NameFault.TheVariants as fault
use Rattle.decls.proofs.WrittenModules.{at, word, number, name, one, set, assign, clocked, item, items, pin, module_of, pal16l8, pal16r4}

-- d device 'P16R4'; b = [a]; a = [b]; EQUATIONS b := 1;
pub e0 : first_name_refusal pal16r4
    (module_of (ADevice (word 1 10 "d") (word 1 19 "'P16R4'") ∷ SomeConstants (word 2 1 "b" ∷ []) (set (one
    (name 2 6 "a") ∷ []) ∷ []) ∷ SomeConstants (word 2 10 "a" ∷ []) (set (one (name 2 15 "b") ∷ []) ∷ []) ∷ [])
    (Equations (clocked (name 2 29 "b") (number 1) ∷ []) ∷ []))
    ≡ Some (fault.Undeclared (at 2 6) (codes "a"))
unfolding is_before digits
e0 = refl

-- d device 'P16L8'; zz istype 'com';
pub e1 : first_name_refusal pal16l8
    (module_of (ADevice (word 1 10 "d") (word 1 19 "'P16L8'") ∷ SomeAttributes (item 2 1 "zz" ∷ []) (word 2 11
    "'com'" ∷ []) ∷ []) [])
    ≡ Some (fault.Undeclared (at 2 1) (codes "zz"))
unfolding is_before digits
e1 = refl

-- d device 'P16L8'; a = 1; a istype 'com';
pub e2 : first_name_refusal pal16l8
    (module_of (ADevice (word 1 10 "d") (word 1 19 "'P16L8'") ∷ SomeConstants (word 2 1 "a" ∷ []) (number 1 ∷
    []) ∷ SomeAttributes (item 2 8 "a" ∷ []) (word 2 17 "'com'" ∷ []) ∷ []) [])
    ≡ Some (fault.Undeclared (at 2 8) (codes "a"))
unfolding is_before digits
e2 = refl

-- d device 'P16L8'; a1,a3 pin 1,2; a1..a3 istype 'com';
pub e3 : first_name_refusal pal16l8
    (module_of (ADevice (word 1 10 "d") (word 1 19 "'P16L8'") ∷ SomePins (item 2 1 "a1" ∷ item 2 4 "a3" ∷ [])
    (pin 1 ∷ pin 2 ∷ []) [] ∷ SomeAttributes (items 2 16 "a1" 2 20 "a3" ∷ []) (word 2 30 "'com'" ∷ []) ∷ []) [])
    ≡ Some (fault.Undeclared (at 2 16) (codes "a2"))
unfolding is_before digits
e3 = refl

-- d device 'P16L8'; a istype 'com'; a pin 1;
pub e4 : first_name_refusal pal16l8
    (module_of (ADevice (word 1 10 "d") (word 1 19 "'P16L8'") ∷ SomeAttributes (item 2 1 "a" ∷ []) (word 2 10
    "'com'" ∷ []) ∷ SomePins (item 2 17 "a" ∷ []) (pin 1 ∷ []) [] ∷ []) [])
    ≡ Some (fault.Undeclared (at 2 1) (codes "a"))
unfolding is_before digits
e4 = refl

-- d device 'P16L8'; EQUATIONS a = 1; DECLARATIONS a pin 19;
pub e5 : first_name_refusal pal16l8
    (module_of (ADevice (word 1 10 "d") (word 1 19 "'P16L8'") ∷ []) (Equations (assign (name 2 11 "a") (number
    1) ∷ []) ∷ Declarations (SomePins (item 2 31 "a" ∷ []) (pin 19 ∷ []) [] ∷ []) ∷ []))
    ≡ Some (fault.Undeclared (at 2 11) (codes "a"))
unfolding is_before digits
e5 = refl
