-- Strings that are refused: sources as trees, and what a second implementation of the language answers.
use Rattle.std.proofs.Common.{◌≡◌, Some, [], ◌∷◌, refl}
use Rattle.decls.proofs.Common.{digits, is_before, ADevice, SomePins, SomeNodes, SomeAttributes, SomeConstants, Equations, ADiagram, first_name_refusal}
use Rattle.abel_tree.specs.declared.words.Extension.TheVariants as extension
use Rattle.decls.specs.declared.fault.NameFault.TheVariants as fault
use Rattle.decls.proofs.WrittenModules.{at, no_place, word, number, name, dotted, one, set, paren, assign, clocked, clocked_any, goto, state, item, pin, module_of, pal16l8, pal16r4, pal16r6}

-- d device 'P16L8'; a pin 19 istype 'xor';
pub e0 : first_name_refusal pal16l8
    (module_of (ADevice (word 1 10 "d") (word 1 19 "'P16L8'") ∷ SomePins (item 2 1 "a" ∷ []) (pin 19 ∷ []) (word
    2 17 "'xor'" ∷ []) ∷ []) [])
    ≡ Some (fault.BadAttribute (at 2 17))
unfolding is_before digits
e0 = refl

-- d device 'P16L8'; a pin 19 istype 'reg_t';
pub e1 : first_name_refusal pal16l8
    (module_of (ADevice (word 1 10 "d") (word 1 19 "'P16L8'") ∷ SomePins (item 2 1 "a" ∷ []) (pin 19 ∷ []) (word
    2 17 "'reg_t'" ∷ []) ∷ []) [])
    ≡ Some (fault.BadAttribute (at 2 17))
unfolding is_before digits
e1 = refl

-- d device 'P16L8'; a pin 19 istype 'reg_g';
pub e2 : first_name_refusal pal16l8
    (module_of (ADevice (word 1 10 "d") (word 1 19 "'P16L8'") ∷ SomePins (item 2 1 "a" ∷ []) (pin 19 ∷ []) (word
    2 17 "'reg_g'" ∷ []) ∷ []) [])
    ≡ Some (fault.BadAttribute (at 2 17))
unfolding is_before digits
e2 = refl

-- d device 'P16L8'; n node istype 'latch';
pub e3 : first_name_refusal pal16l8
    (module_of (ADevice (word 1 10 "d") (word 1 19 "'P16L8'") ∷ SomeNodes (item 2 1 "n" ∷ []) [] (word 2 15
    "'latch'" ∷ []) ∷ []) [])
    ≡ Some (fault.BadAttribute (at 2 15))
unfolding is_before digits
e3 = refl

-- d device 'P16L8'; n node istype 'comx';
pub e4 : first_name_refusal pal16l8
    (module_of (ADevice (word 1 10 "d") (word 1 19 "'P16L8'") ∷ SomeNodes (item 2 1 "n" ∷ []) [] (word 2 15
    "'comx'" ∷ []) ∷ []) [])
    ≡ Some (fault.BadAttribute (at 2 15))
unfolding is_before digits
e4 = refl

-- d device 'P16L8'; n node istype 'com;dc';
pub e5 : first_name_refusal pal16l8
    (module_of (ADevice (word 1 10 "d") (word 1 19 "'P16L8'") ∷ SomeNodes (item 2 1 "n" ∷ []) [] (word 2 15
    "'com;dc'" ∷ []) ∷ []) [])
    ≡ Some (fault.BadAttribute (at 2 15))
unfolding is_before digits
e5 = refl

-- d device 'P16L8'; a pin 19 istype 'buf';
pub e6 : first_name_refusal pal16l8
    (module_of (ADevice (word 1 10 "d") (word 1 19 "'P16L8'") ∷ SomePins (item 2 1 "a" ∷ []) (pin 19 ∷ []) (word
    2 17 "'buf'" ∷ []) ∷ []) [])
    ≡ Some (fault.BadAttribute (at 2 17))
unfolding is_before digits
e6 = refl

-- d device 'P16L8'; a pin 19 istype 'com,reg';
pub e7 : first_name_refusal pal16l8
    (module_of (ADevice (word 1 10 "d") (word 1 19 "'P16L8'") ∷ SomePins (item 2 1 "a" ∷ []) (pin 19 ∷ []) (word
    2 17 "'com,reg'" ∷ []) ∷ []) [])
    ≡ Some (fault.BadAttribute (at 2 17))
unfolding is_before digits
e7 = refl

-- d device 'P16L8'; a pin 19 istype 'reg com';
pub e8 : first_name_refusal pal16l8
    (module_of (ADevice (word 1 10 "d") (word 1 19 "'P16L8'") ∷ SomePins (item 2 1 "a" ∷ []) (pin 19 ∷ []) (word
    2 17 "'reg com'" ∷ []) ∷ []) [])
    ≡ Some (fault.BadAttribute (at 2 17))
unfolding is_before digits
e8 = refl

-- d device 'P16L8'; n node istype 'reg_d,com';
pub e9 : first_name_refusal pal16l8
    (module_of (ADevice (word 1 10 "d") (word 1 19 "'P16L8'") ∷ SomeNodes (item 2 1 "n" ∷ []) [] (word 2 15
    "'reg_d,com'" ∷ []) ∷ []) [])
    ≡ Some (fault.BadAttribute (at 2 15))
unfolding is_before digits
e9 = refl

-- d device 'P16L8'; n node istype 'buffer,invert';
pub e10 : first_name_refusal pal16l8
    (module_of (ADevice (word 1 10 "d") (word 1 19 "'P16L8'") ∷ SomeNodes (item 2 1 "n" ∷ []) [] (word 2 15
    "'buffer,invert'" ∷ []) ∷ []) [])
    ≡ Some (fault.BadAttribute (at 2 15))
unfolding is_before digits
e10 = refl

-- d device 'P16L8'; n node istype 'com,zz';
pub e11 : first_name_refusal pal16l8
    (module_of (ADevice (word 1 10 "d") (word 1 19 "'P16L8'") ∷ SomeNodes (item 2 1 "n" ∷ []) [] (word 2 15
    "'com,zz'" ∷ []) ∷ []) [])
    ≡ Some (fault.BadAttribute (at 2 15))
unfolding is_before digits
e11 = refl

-- d device 'P16L8'; a pin 19 istype 'reg_jk';
pub e12 : first_name_refusal pal16l8
    (module_of (ADevice (word 1 10 "d") (word 1 19 "'P16L8'") ∷ SomePins (item 2 1 "a" ∷ []) (pin 19 ∷ []) (word
    2 17 "'reg_jk'" ∷ []) ∷ []) [])
    ≡ Some (fault.BadAttribute (at 2 17))
unfolding is_before digits
e12 = refl

-- d device 'P16L8'; a pin 1 istype 'com','reg';
pub e13 : first_name_refusal pal16l8
    (module_of (ADevice (word 1 10 "d") (word 1 19 "'P16L8'") ∷ SomePins (item 2 1 "a" ∷ []) (pin 1 ∷ []) (word
    2 16 "'com'" ∷ word 2 22 "'reg'" ∷ []) ∷ []) [])
    ≡ Some (fault.BadAttribute (at 2 22))
unfolding is_before digits
e13 = refl

-- d device 'P16L8'; a pin 1 istype 'com'; a istype 'reg';
pub e14 : first_name_refusal pal16l8
    (module_of (ADevice (word 1 10 "d") (word 1 19 "'P16L8'") ∷ SomePins (item 2 1 "a" ∷ []) (pin 1 ∷ []) (word
    2 16 "'com'" ∷ []) ∷ SomeAttributes (item 2 23 "a" ∷ []) (word 2 32 "'reg'" ∷ []) ∷ []) [])
    ≡ Some (fault.BadAttribute (at 2 32))
unfolding is_before digits
e14 = refl

-- d device 'P16L8'; a pin 1 istype 'foo'; a pin 2;
pub e15 : first_name_refusal pal16l8
    (module_of (ADevice (word 1 10 "d") (word 1 19 "'P16L8'") ∷ SomePins (item 2 1 "a" ∷ []) (pin 1 ∷ []) (word
    2 16 "'foo'" ∷ []) ∷ SomePins (item 2 23 "a" ∷ []) (pin 2 ∷ []) [] ∷ []) [])
    ≡ Some (fault.BadAttribute (at 2 16))
unfolding is_before digits
e15 = refl

-- d device 'P16R4'; q pin 17 istype 'reg_d','buffer';
pub e16 : first_name_refusal pal16r4
    (module_of (ADevice (word 1 10 "d") (word 1 19 "'P16R4'") ∷ SomePins (item 2 1 "q" ∷ []) (pin 17 ∷ []) (word
    2 17 "'reg_d'" ∷ word 2 25 "'buffer'" ∷ []) ∷ []) [])
    ≡ Some (fault.BadAttribute (at 2 1))
unfolding is_before digits
e16 = refl

-- d device 'P16R4'; x,q pin 1,17 istype 'buffer'; EQUATIONS q.D = x;
pub e17 : first_name_refusal pal16r4
    (module_of (ADevice (word 1 10 "d") (word 1 19 "'P16R4'") ∷ SomePins (item 2 1 "x" ∷ item 2 3 "q" ∷ []) (pin
    1 ∷ pin 17 ∷ []) (word 2 21 "'buffer'" ∷ []) ∷ []) (Equations (assign (dotted 2 41 "q" extension.D) (name 2
    47 "x") ∷ []) ∷ []))
    ≡ Some (fault.BadAttribute (at 2 3))
unfolding is_before digits
e17 = refl

-- d device 'P16R4'; x,q pin 1,17 istype 'buffer'; STATE_DIAGRAM q STATE 0: GOTO 1;
pub e18 : first_name_refusal pal16r4
    (module_of (ADevice (word 1 10 "d") (word 1 19 "'P16R4'") ∷ SomePins (item 2 1 "x" ∷ item 2 3 "q" ∷ []) (pin
    1 ∷ pin 17 ∷ []) (word 2 21 "'buffer'" ∷ []) ∷ []) (ADiagram no_place (name 2 45 "q") (state (number 0) []
    (goto (number 1) ∷ []) ∷ []) ∷ []))
    ≡ Some (fault.BadAttribute (at 2 3))
unfolding is_before digits
e18 = refl

-- d device 'P16R4'; q pin 17; q istype 'buffer,reg';
pub e19 : first_name_refusal pal16r4
    (module_of (ADevice (word 1 10 "d") (word 1 19 "'P16R4'") ∷ SomePins (item 2 1 "q" ∷ []) (pin 17 ∷ []) [] ∷
    SomeAttributes (item 2 11 "q" ∷ []) (word 2 20 "'buffer,reg'" ∷ []) ∷ []) [])
    ≡ Some (fault.BadAttribute (at 2 11))
unfolding is_before digits
e19 = refl

-- d device 'P16R4'; x,q pin 1,17 istype 'buffer'; c = [(q),x]; EQUATIONS c := 1;
pub e20 : first_name_refusal pal16r4
    (module_of (ADevice (word 1 10 "d") (word 1 19 "'P16R4'") ∷ SomePins (item 2 1 "x" ∷ item 2 3 "q" ∷ []) (pin
    1 ∷ pin 17 ∷ []) (word 2 21 "'buffer'" ∷ []) ∷ SomeConstants (word 2 31 "c" ∷ []) (set (one (paren (name 2
    37 "q")) ∷ one (name 2 40 "x") ∷ []) ∷ []) ∷ []) (Equations (clocked (name 2 54 "c") (number 1) ∷ []) ∷ []))
    ≡ Some (fault.BadAttribute (at 2 1))
unfolding is_before digits
e20 = refl

-- d device 'P16R6'; q pin 17 istype 'reg,buffer';
pub e21 : first_name_refusal pal16r6
    (module_of (ADevice (word 1 10 "d") (word 1 19 "'P16R6'") ∷ SomePins (item 2 1 "q" ∷ []) (pin 17 ∷ []) (word
    2 17 "'reg,buffer'" ∷ []) ∷ []) [])
    ≡ Some (fault.BadAttribute (at 2 1))
unfolding is_before digits
e21 = refl

-- d device 'P16R6'; x,q pin 1,17 istype 'buffer'; EQUATIONS q := x;
pub e22 : first_name_refusal pal16r6
    (module_of (ADevice (word 1 10 "d") (word 1 19 "'P16R6'") ∷ SomePins (item 2 1 "x" ∷ item 2 3 "q" ∷ []) (pin
    1 ∷ pin 17 ∷ []) (word 2 21 "'buffer'" ∷ []) ∷ []) (Equations (clocked (name 2 41 "q") (name 2 46 "x") ∷ [])
    ∷ []))
    ≡ Some (fault.BadAttribute (at 2 3))
unfolding is_before digits
e22 = refl

-- d device 'P16R6'; x,q pin 1,17 istype 'buffer'; EQUATIONS q ?:= x;
pub e23 : first_name_refusal pal16r6
    (module_of (ADevice (word 1 10 "d") (word 1 19 "'P16R6'") ∷ SomePins (item 2 1 "x" ∷ item 2 3 "q" ∷ []) (pin
    1 ∷ pin 17 ∷ []) (word 2 21 "'buffer'" ∷ []) ∷ []) (Equations (clocked_any (name 2 41 "q") (name 2 47 "x") ∷
    []) ∷ []))
    ≡ Some (fault.BadAttribute (at 2 3))
unfolding is_before digits
e23 = refl
