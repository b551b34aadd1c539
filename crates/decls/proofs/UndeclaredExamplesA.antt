-- Names that are not declared before: sources as trees, and what a second implementation of the language answers.
use Rattle.std.proofs.Common.{◌≡◌, Some, None, [], ◌∷◌, false, refl, codes}
use Rattle.decls.proofs.Common.{digits, is_before, ADevice, SomePins, SomeAttributes, SomeConstants, Equations, ATable, ADiagram, SomeVectors, first_name_refusal}
use Rattle.abel_tree.specs.declared.words.Extension.TheVariants as extension
use Rattle.abel_tree.specs.declared.words.Binary.TheVariants as binary
use Rattle.decls.specs.declared.fault.NameFault.TheVariants as fault
use Rattle.decls.proofs.WrittenModules.{at, no_place, word, number, special, name, dotted, one, span, set, paren, complement, negative, operator, assign, not_assign, clocked, when_then, goto, goto_with, if_else, choice, case_of, row, state, item, pin, module_of, pal16l8}

-- d device 'P16L8'; a pin 1; zz istype 'foo';
pub e0 : first_name_refusal pal16l8
    (module_of (ADevice (word 1 10 "d") (word 1 19 "'P16L8'") ∷ SomePins (item 2 1 "a" ∷ []) (pin 1 ∷ []) [] ∷
    SomeAttributes (item 2 10 "zz" ∷ []) (word 2 20 "'foo'" ∷ []) ∷ []) [])
    ≡ Some (fault.Undeclared (at 2 10) (codes "zz"))
unfolding is_before digits
e0 = refl

-- d device 'P16L8'; Y pin 19; EQUATIONS Y = zz;
pub e1 : first_name_refusal pal16l8
    (module_of (ADevice (word 1 10 "d") (word 1 19 "'P16L8'") ∷ SomePins (item 2 1 "Y" ∷ []) (pin 19 ∷ []) [] ∷
    []) (Equations (assign (name 3 11 "Y") (name 3 15 "zz") ∷ []) ∷ []))
    ≡ Some (fault.Undeclared (at 3 15) (codes "zz"))
unfolding is_before digits
e1 = refl

-- d device 'P16L8'; Y pin 19; EQUATIONS zz = Y;
pub e2 : first_name_refusal pal16l8
    (module_of (ADevice (word 1 10 "d") (word 1 19 "'P16L8'") ∷ SomePins (item 2 1 "Y" ∷ []) (pin 19 ∷ []) [] ∷
    []) (Equations (assign (name 3 11 "zz") (name 3 16 "Y") ∷ []) ∷ []))
    ≡ Some (fault.Undeclared (at 3 11) (codes "zz"))
unfolding is_before digits
e2 = refl

-- d device 'P16L8'; Y pin 19; EQUATIONS !zz.OE = yy;
pub e3 : first_name_refusal pal16l8
    (module_of (ADevice (word 1 10 "d") (word 1 19 "'P16L8'") ∷ SomePins (item 2 1 "Y" ∷ []) (pin 19 ∷ []) [] ∷
    []) (Equations (not_assign (dotted 3 12 "zz" extension.Oe) (name 3 20 "yy") ∷ []) ∷ []))
    ≡ Some (fault.Undeclared (at 3 12) (codes "zz"))
unfolding is_before digits
e3 = refl

-- d device 'P16L8'; Y pin 19; EQUATIONS Y = y;
pub e4 : first_name_refusal pal16l8
    (module_of (ADevice (word 1 10 "d") (word 1 19 "'P16L8'") ∷ SomePins (item 2 1 "Y" ∷ []) (pin 19 ∷ []) [] ∷
    []) (Equations (assign (name 3 11 "Y") (name 3 15 "y") ∷ []) ∷ []))
    ≡ Some (fault.Undeclared (at 3 15) (codes "y"))
unfolding is_before digits
e4 = refl

-- d device 'P16L8'; Y pin 19; EQUATIONS Y = !(1 + [.X.,-zz.Q]);
pub e5 : first_name_refusal pal16l8
    (module_of (ADevice (word 1 10 "d") (word 1 19 "'P16L8'") ∷ SomePins (item 2 1 "Y" ∷ []) (pin 19 ∷ []) [] ∷
    []) (Equations (assign (name 3 11 "Y") (complement (paren (operator binary.Plus (number 1) (set (one
    (special 88) ∷ one (negative (dotted 3 27 "zz" extension.Q)) ∷ []))))) ∷ []) ∷ []))
    ≡ Some (fault.Undeclared (at 3 27) (codes "zz"))
unfolding is_before digits
e5 = refl

-- d device 'P16L8'; Y,a1,a3 pin 19,1,2; EQUATIONS Y = [a3..a1] == 1;
pub e6 : first_name_refusal pal16l8
    (module_of (ADevice (word 1 10 "d") (word 1 19 "'P16L8'") ∷ SomePins (item 2 1 "Y" ∷ item 2 3 "a1" ∷ item 2
    6 "a3" ∷ []) (pin 19 ∷ pin 1 ∷ pin 2 ∷ []) [] ∷ []) (Equations (assign (name 3 11 "Y") (operator
    binary.Equal (set (span (word 3 16 "a3") (word 3 20 "a1") ∷ [])) (number 1)) ∷ []) ∷ []))
    ≡ Some (fault.Undeclared (at 3 16) (codes "a2"))
unfolding is_before digits
e6 = refl

-- d device 'P16L8'; Y pin 19; EQUATIONS WHEN zz THEN Y = 1;
pub e7 : first_name_refusal pal16l8
    (module_of (ADevice (word 1 10 "d") (word 1 19 "'P16L8'") ∷ SomePins (item 2 1 "Y" ∷ []) (pin 19 ∷ []) [] ∷
    []) (Equations (when_then (name 3 16 "zz") (assign (name 3 24 "Y") (number 1)) ∷ []) ∷ []))
    ≡ Some (fault.Undeclared (at 3 16) (codes "zz"))
unfolding is_before digits
e7 = refl

-- d device 'P16L8'; Y pin 19; TRUTH_TABLE (zz -> Y) 0 -> 1;
pub e8 : first_name_refusal pal16l8
    (module_of (ADevice (word 1 10 "d") (word 1 19 "'P16L8'") ∷ SomePins (item 2 1 "Y" ∷ []) (pin 19 ∷ []) [] ∷
    []) (ATable no_place (name 3 14 "zz") false (name 3 20 "Y") (row (number 0) (number 1) ∷ []) ∷ []))
    ≡ Some (fault.Undeclared (at 3 14) (codes "zz"))
unfolding is_before digits
e8 = refl

-- d device 'P16L8'; Y pin 19; TRUTH_TABLE (Y -> zz) 0 -> 1;
pub e9 : first_name_refusal pal16l8
    (module_of (ADevice (word 1 10 "d") (word 1 19 "'P16L8'") ∷ SomePins (item 2 1 "Y" ∷ []) (pin 19 ∷ []) [] ∷
    []) (ATable no_place (name 3 14 "Y") false (name 3 19 "zz") (row (number 0) (number 1) ∷ []) ∷ []))
    ≡ Some (fault.Undeclared (at 3 19) (codes "zz"))
unfolding is_before digits
e9 = refl

-- d device 'P16L8'; Y pin 19; TRUTH_TABLE (Y -> Y) zz -> 1;
pub e10 : first_name_refusal pal16l8
    (module_of (ADevice (word 1 10 "d") (word 1 19 "'P16L8'") ∷ SomePins (item 2 1 "Y" ∷ []) (pin 19 ∷ []) [] ∷
    []) (ATable no_place (name 3 14 "Y") false (name 3 19 "Y") (row (name 3 22 "zz") (number 1) ∷ []) ∷ []))
    ≡ Some (fault.Undeclared (at 3 22) (codes "zz"))
unfolding is_before digits
e10 = refl

-- d device 'P16L8'; Y pin 19; TRUTH_TABLE (Y -> Y) 1 -> zz;
pub e11 : first_name_refusal pal16l8
    (module_of (ADevice (word 1 10 "d") (word 1 19 "'P16L8'") ∷ SomePins (item 2 1 "Y" ∷ []) (pin 19 ∷ []) [] ∷
    []) (ATable no_place (name 3 14 "Y") false (name 3 19 "Y") (row (number 1) (name 3 27 "zz") ∷ []) ∷ []))
    ≡ Some (fault.Undeclared (at 3 27) (codes "zz"))
unfolding is_before digits
e11 = refl

-- d device 'P16L8'; Y pin 19; STATE_DIAGRAM Y STATE zz:
pub e12 : first_name_refusal pal16l8
    (module_of (ADevice (word 1 10 "d") (word 1 19 "'P16L8'") ∷ SomePins (item 2 1 "Y" ∷ []) (pin 19 ∷ []) [] ∷
    []) (ADiagram no_place (name 3 15 "Y") (state (name 3 23 "zz") [] [] ∷ []) ∷ []))
    ≡ Some (fault.Undeclared (at 3 23) (codes "zz"))
unfolding is_before digits
e12 = refl

-- d device 'P16L8'; Y pin 19; STATE_DIAGRAM Y STATE 0: zz = 1;
pub e13 : first_name_refusal pal16l8
    (module_of (ADevice (word 1 10 "d") (word 1 19 "'P16L8'") ∷ SomePins (item 2 1 "Y" ∷ []) (pin 19 ∷ []) [] ∷
    []) (ADiagram no_place (name 3 15 "Y") (state (number 0) (assign (name 3 26 "zz") (number 1) ∷ []) [] ∷ [])
    ∷ []))
    ≡ Some (fault.Undeclared (at 3 26) (codes "zz"))
unfolding is_before digits
e13 = refl

-- d device 'P16L8'; Y pin 19; STATE_DIAGRAM Y STATE 0: GOTO zz;
pub e14 : first_name_refusal pal16l8
    (module_of (ADevice (word 1 10 "d") (word 1 19 "'P16L8'") ∷ SomePins (item 2 1 "Y" ∷ []) (pin 19 ∷ []) [] ∷
    []) (ADiagram no_place (name 3 15 "Y") (state (number 0) [] (goto (name 3 31 "zz") ∷ []) ∷ []) ∷ []))
    ≡ Some (fault.Undeclared (at 3 31) (codes "zz"))
unfolding is_before digits
e14 = refl

-- d device 'P16L8'; Y pin 19; STATE_DIAGRAM Y STATE 0: IF 1 THEN GOTO 1 ELSE GOTO zz;
pub e15 : first_name_refusal pal16l8
    (module_of (ADevice (word 1 10 "d") (word 1 19 "'P16L8'") ∷ SomePins (item 2 1 "Y" ∷ []) (pin 19 ∷ []) [] ∷
    []) (ADiagram no_place (name 3 15 "Y") (state (number 0) [] (if_else (number 1) (goto (number 1)) (goto
    (name 3 44 "zz")) ∷ []) ∷ []) ∷ []))
    ≡ Some (fault.Undeclared (at 3 44) (codes "zz"))
unfolding is_before digits
e15 = refl

-- d device 'P16L8'; Y pin 19; STATE_DIAGRAM Y STATE 0: CASE zz: GOTO 1; ENDCASE;
pub e16 : first_name_refusal pal16l8
    (module_of (ADevice (word 1 10 "d") (word 1 19 "'P16L8'") ∷ SomePins (item 2 1 "Y" ∷ []) (pin 19 ∷ []) [] ∷
    []) (ADiagram no_place (name 3 15 "Y") (state (number 0) [] (case_of (choice (name 3 31 "zz") (goto (number
    1)) ∷ []) ∷ []) ∷ []) ∷ []))
    ≡ Some (fault.Undeclared (at 3 31) (codes "zz"))
unfolding is_before digits
e16 = refl

-- d device 'P16L8'; Y pin 19; STATE_DIAGRAM Y STATE 0: CASE 1: GOTO 1 WITH zz = 1; ENDWITH; ENDCASE;
pub e17 : first_name_refusal pal16l8
    (module_of (ADevice (word 1 10 "d") (word 1 19 "'P16L8'") ∷ SomePins (item 2 1 "Y" ∷ []) (pin 19 ∷ []) [] ∷
    []) (ADiagram no_place (name 3 15 "Y") (state (number 0) [] (case_of (choice (number 1) (goto_with (number
    1) (assign (name 3 42 "zz") (number 1) ∷ [])) ∷ []) ∷ []) ∷ []) ∷ []))
    ≡ Some (fault.Undeclared (at 3 42) (codes "zz"))
unfolding is_before digits
e17 = refl

-- d device 'P16L8'; Y pin 19; TEST_VECTORS (zz -> Y) 1 -> 2;
pub e18 : first_name_refusal pal16l8
    (module_of (ADevice (word 1 10 "d") (word 1 19 "'P16L8'") ∷ SomePins (item 2 1 "Y" ∷ []) (pin 19 ∷ []) [] ∷
    []) (SomeVectors None no_place (name 3 15 "zz") (name 3 21 "Y") (row (number 1) (number 2) ∷ []) ∷ []))
    ≡ Some (fault.Undeclared (at 3 15) (codes "zz"))
unfolding is_before digits
e18 = refl

-- d device 'P16L8'; a = b;
pub e19 : first_name_refusal pal16l8
    (module_of (ADevice (word 1 10 "d") (word 1 19 "'P16L8'") ∷ SomeConstants (word 2 1 "a" ∷ []) (name 2 5 "b"
    ∷ []) ∷ []) [])
    ≡ Some (fault.Undeclared (at 2 5) (codes "b"))
unfolding is_before digits
e19 = refl

-- d device 'P16L8'; a = a;
pub e20 : first_name_refusal pal16l8
    (module_of (ADevice (word 1 10 "d") (word 1 19 "'P16L8'") ∷ SomeConstants (word 2 1 "a" ∷ []) (name 2 5 "a"
    ∷ []) ∷ []) [])
    ≡ Some (fault.Undeclared (at 2 5) (codes "a"))
unfolding is_before digits
e20 = refl

-- d device 'P16L8'; a,b = 1,a;
pub e21 : first_name_refusal pal16l8
    (module_of (ADevice (word 1 10 "d") (word 1 19 "'P16L8'") ∷ SomeConstants (word 2 1 "a" ∷ word 2 3 "b" ∷ [])
    (number 1 ∷ name 2 9 "a" ∷ []) ∷ []) [])
    ≡ Some (fault.Undeclared (at 2 9) (codes "a"))
unfolding is_before digits
e21 = refl

-- d device 'P16L8'; b = a; a = 1;
pub e22 : first_name_refusal pal16l8
    (module_of (ADevice (word 1 10 "d") (word 1 19 "'P16L8'") ∷ SomeConstants (word 2 1 "b" ∷ []) (name 2 5 "a"
    ∷ []) ∷ SomeConstants (word 2 8 "a" ∷ []) (number 1 ∷ []) ∷ []) [])
    ≡ Some (fault.Undeclared (at 2 5) (codes "a"))
unfolding is_before digits
e22 = refl

-- d device 'P16L8'; b = a; a = b; EQUATIONS b := 1;
pub e23 : first_name_refusal pal16l8
    (module_of (ADevice (word 1 10 "d") (word 1 19 "'P16L8'") ∷ SomeConstants (word 2 1 "b" ∷ []) (name 2 5 "a"
    ∷ []) ∷ SomeConstants (word 2 8 "a" ∷ []) (name 2 12 "b" ∷ []) ∷ []) (Equations (clocked (name 2 25 "b")
    (number 1) ∷ []) ∷ []))
    ≡ Some (fault.Undeclared (at 2 5) (codes "a"))
unfolding is_before digits
e23 = refl
