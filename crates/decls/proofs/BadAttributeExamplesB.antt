-- Strings that are refused: sources as trees, and what a second implementation of the language answers.
use Rattle.std.proofs.Common.{◌≡◌, Some, [], ◌∷◌, true, refl}
use Rattle.decls.proofs.Common.{digits, is_before, ADevice, SomePins, SomeAttributes, SomeConstants, Equations, ATable, ADiagram, first_name_refusal}
use Rattle.abel_tree.specs.declared.words.Extension.TheVariants as extension
use Rattle.decls.specs.declared.fault.NameFault.TheVariants as fault
use Rattle.decls.proofs.WrittenModules.{at, no_place, word, number, name, dotted, one, set, dotted_set, paren, assign, clocked, when_then, group, goto, row, state, item, items, pin, pins_to, module_of, pal16r6, pal16r8}

-- d device 'P16R6'; x,q pin 1,17 istype 'buffer'; STATE_DIAGRAM x STATE 0: q := 1; GOTO 1;
pub e0 : first_name_refusal pal16r6
    (module_of (ADevice (word 1 10 "d") (word 1 19 "'P16R6'") ∷ SomePins (item 2 1 "x" ∷ item 2 3 "q" ∷ []) (pin
    1 ∷ pin 17 ∷ []) (word 2 21 "'buffer'" ∷ []) ∷ []) (ADiagram no_place (name 2 45 "x") (state (number 0)
    (clocked (name 2 56 "q") (number 1) ∷ []) (goto (number 1) ∷ []) ∷ []) ∷ []))
    ≡ Some (fault.BadAttribute (at 2 1))
unfolding is_before digits
e0 = refl

-- d device 'P16R6'; q0..q2 pin 15..17 istype 'reg,buffer';
pub e1 : first_name_refusal pal16r6
    (module_of (ADevice (word 1 10 "d") (word 1 19 "'P16R6'") ∷ SomePins (items 2 1 "q0" 2 5 "q2" ∷ []) (pins_to
    15 17 ∷ []) (word 2 26 "'reg,buffer'" ∷ []) ∷ []) [])
    ≡ Some (fault.BadAttribute (at 2 1))
unfolding is_before digits
e1 = refl

-- d device 'P16R6'; x,q pin 1,17 istype 'buffer'; EQUATIONS WHEN x THEN { [x,[q]].D = 1; }
pub e2 : first_name_refusal pal16r6
    (module_of (ADevice (word 1 10 "d") (word 1 19 "'P16R6'") ∷ SomePins (item 2 1 "x" ∷ item 2 3 "q" ∷ []) (pin
    1 ∷ pin 17 ∷ []) (word 2 21 "'buffer'" ∷ []) ∷ []) (Equations (when_then (name 2 46 "x") (group (assign
    (dotted_set (one (name 2 55 "x") ∷ one (set (one (name 2 58 "q") ∷ [])) ∷ []) extension.D) (number 1) ∷ []))
    ∷ []) ∷ []))
    ≡ Some (fault.BadAttribute (at 2 1))
unfolding is_before digits
e2 = refl

-- d device 'P16R8'; q pin 17 istype 'reg_d','buffer';
pub e3 : first_name_refusal pal16r8
    (module_of (ADevice (word 1 10 "d") (word 1 19 "'P16R8'") ∷ SomePins (item 2 1 "q" ∷ []) (pin 17 ∷ []) (word
    2 17 "'reg_d'" ∷ word 2 25 "'buffer'" ∷ []) ∷ []) [])
    ≡ Some (fault.BadAttribute (at 2 1))
unfolding is_before digits
e3 = refl

-- d device 'P16R8'; x,q pin 1,17 istype 'buffer'; EQUATIONS q.D = x;
pub e4 : first_name_refusal pal16r8
    (module_of (ADevice (word 1 10 "d") (word 1 19 "'P16R8'") ∷ SomePins (item 2 1 "x" ∷ item 2 3 "q" ∷ []) (pin
    1 ∷ pin 17 ∷ []) (word 2 21 "'buffer'" ∷ []) ∷ []) (Equations (assign (dotted 2 41 "q" extension.D) (name 2
    47 "x") ∷ []) ∷ []))
    ≡ Some (fault.BadAttribute (at 2 3))
unfolding is_before digits
e4 = refl

-- d device 'P16R8'; x,q pin 1,17 istype 'buffer'; TRUTH_TABLE (x :> q) 0 :> 1;
pub e5 : first_name_refusal pal16r8
    (module_of (ADevice (word 1 10 "d") (word 1 19 "'P16R8'") ∷ SomePins (item 2 1 "x" ∷ item 2 3 "q" ∷ []) (pin
    1 ∷ pin 17 ∷ []) (word 2 21 "'buffer'" ∷ []) ∷ []) (ATable no_place (name 2 44 "x") true (name 2 49 "q")
    (row (number 0) (number 1) ∷ []) ∷ []))
    ≡ Some (fault.BadAttribute (at 2 3))
unfolding is_before digits
e5 = refl

-- d device 'P16R8'; q pin 17; q istype 'buffer,reg';
pub e6 : first_name_refusal pal16r8
    (module_of (ADevice (word 1 10 "d") (word 1 19 "'P16R8'") ∷ SomePins (item 2 1 "q" ∷ []) (pin 17 ∷ []) [] ∷
    SomeAttributes (item 2 11 "q" ∷ []) (word 2 20 "'buffer,reg'" ∷ []) ∷ []) [])
    ≡ Some (fault.BadAttribute (at 2 11))
unfolding is_before digits
e6 = refl

-- d device 'P16R8'; x,q pin 1,17 istype 'buffer'; c = [(q),x]; EQUATIONS c := 1;
pub e7 : first_name_refusal pal16r8
    (module_of (ADevice (word 1 10 "d") (word 1 19 "'P16R8'") ∷ SomePins (item 2 1 "x" ∷ item 2 3 "q" ∷ []) (pin
    1 ∷ pin 17 ∷ []) (word 2 21 "'buffer'" ∷ []) ∷ SomeConstants (word 2 31 "c" ∷ []) (set (one (paren (name 2
    37 "q")) ∷ one (name 2 40 "x") ∷ []) ∷ []) ∷ []) (Equations (clocked (name 2 54 "c") (number 1) ∷ []) ∷ []))
    ≡ Some (fault.BadAttribute (at 2 1))
unfolding is_before digits
e7 = refl
