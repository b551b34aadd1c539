-- Accepted names: sources as trees, and what a second implementation of the language answers.
use Rattle.std.proofs.Common.{◌≡◌, [], ◌∷◌, false, refl}
use Rattle.decls.proofs.Common.{digits, is_before, ADevice, SomePins, SomeAttributes, Equations, ATable}
use Rattle.abel_tree.specs.declared.words.Extension.TheVariants as extension
use Rattle.decls.proofs.WrittenModules.{no_place, word, number, name, dotted, assign, row, item, pin, module_of, pal16l8, pal16r4, pal16r6, gal22v10, name_codes}

-- d device 'P16L8'; A pin 1; a pin 2;
pub e0 : name_codes pal16l8
    (module_of (ADevice (word 1 10 "d") (word 1 19 "'P16L8'") ∷ SomePins (item 2 1 "A" ∷ []) (pin 1 ∷ []) [] ∷
    SomePins (item 2 10 "a" ∷ []) (pin 2 ∷ []) [] ∷ []) [])
    ≡ (48000 ∷ 32 ∷ 64 ∷ [])
unfolding is_before digits
e0 = refl

-- d device 'P16L8'; m pin 1;
pub e1 : name_codes pal16l8
    (module_of (ADevice (word 1 10 "d") (word 1 19 "'P16L8'") ∷ SomePins (item 2 1 "m" ∷ []) (pin 1 ∷ []) [] ∷
    []) [])
    ≡ (48000 ∷ 32 ∷ [])
unfolding is_before digits
e1 = refl

-- d device 'GAL22V10'; a pin 10;
pub e2 : name_codes gal22v10
    (module_of (ADevice (word 1 10 "d") (word 1 19 "'GAL22V10'") ∷ SomePins (item 2 1 "a" ∷ []) (pin 10 ∷ []) []
    ∷ []) [])
    ≡ (48000 ∷ 320 ∷ [])
unfolding is_before digits
e2 = refl

-- d device 'GAL22V10'; a pin 20;
pub e3 : name_codes gal22v10
    (module_of (ADevice (word 1 10 "d") (word 1 19 "'GAL22V10'") ∷ SomePins (item 2 1 "a" ∷ []) (pin 20 ∷ []) []
    ∷ []) [])
    ≡ (48000 ∷ 640 ∷ [])
unfolding is_before digits
e3 = refl

-- d device 'P16R4'; a,b,c,e,f pin 1,11,19,9,12;
pub e4 : name_codes pal16r4
    (module_of (ADevice (word 1 10 "d") (word 1 19 "'P16R4'") ∷ SomePins (item 2 1 "a" ∷ item 2 3 "b" ∷ item 2 5
    "c" ∷ item 2 7 "e" ∷ item 2 9 "f" ∷ []) (pin 1 ∷ pin 11 ∷ pin 19 ∷ pin 9 ∷ pin 12 ∷ []) [] ∷ []) [])
    ≡ (48000 ∷ 32 ∷ 352 ∷ 608 ∷ 288 ∷ 384 ∷ [])
unfolding is_before digits
e4 = refl

-- d device 'P16R6'; a,b,c,e,f pin 1,11,19,9,12;
pub e5 : name_codes pal16r6
    (module_of (ADevice (word 1 10 "d") (word 1 19 "'P16R6'") ∷ SomePins (item 2 1 "a" ∷ item 2 3 "b" ∷ item 2 5
    "c" ∷ item 2 7 "e" ∷ item 2 9 "f" ∷ []) (pin 1 ∷ pin 11 ∷ pin 19 ∷ pin 9 ∷ pin 12 ∷ []) [] ∷ []) [])
    ≡ (48000 ∷ 32 ∷ 352 ∷ 608 ∷ 288 ∷ 384 ∷ [])
unfolding is_before digits
e5 = refl

-- d device 'P16L8'; a pin 19 istype 'com';
pub e6 : name_codes pal16l8
    (module_of (ADevice (word 1 10 "d") (word 1 19 "'P16L8'") ∷ SomePins (item 2 1 "a" ∷ []) (pin 19 ∷ []) (word
    2 17 "'com'" ∷ []) ∷ []) [])
    ≡ (48000 ∷ 608 ∷ [])
unfolding is_before digits
e6 = refl

-- d device 'P16L8'; a pin 19 istype 'reg';
pub e7 : name_codes pal16l8
    (module_of (ADevice (word 1 10 "d") (word 1 19 "'P16L8'") ∷ SomePins (item 2 1 "a" ∷ []) (pin 19 ∷ []) (word
    2 17 "'reg'" ∷ []) ∷ []) [])
    ≡ (48000 ∷ 609 ∷ [])
unfolding is_before digits
e7 = refl

-- d device 'P16L8'; a pin 19 istype 'buffer';
pub e8 : name_codes pal16l8
    (module_of (ADevice (word 1 10 "d") (word 1 19 "'P16L8'") ∷ SomePins (item 2 1 "a" ∷ []) (pin 19 ∷ []) (word
    2 17 "'buffer'" ∷ []) ∷ []) [])
    ≡ (48000 ∷ 608 ∷ [])
unfolding is_before digits
e8 = refl

-- d device 'P16L8'; a pin 19 istype 'invert';
pub e9 : name_codes pal16l8
    (module_of (ADevice (word 1 10 "d") (word 1 19 "'P16L8'") ∷ SomePins (item 2 1 "a" ∷ []) (pin 19 ∷ []) (word
    2 17 "'invert'" ∷ []) ∷ []) [])
    ≡ (48000 ∷ 608 ∷ [])
unfolding is_before digits
e9 = refl

-- d device 'P16L8'; a pin 19 istype 'pos';
pub e10 : name_codes pal16l8
    (module_of (ADevice (word 1 10 "d") (word 1 19 "'P16L8'") ∷ SomePins (item 2 1 "a" ∷ []) (pin 19 ∷ []) (word
    2 17 "'pos'" ∷ []) ∷ []) [])
    ≡ (48000 ∷ 608 ∷ [])
unfolding is_before digits
e10 = refl

-- d device 'P16L8'; a pin 19 istype 'keep';
pub e11 : name_codes pal16l8
    (module_of (ADevice (word 1 10 "d") (word 1 19 "'P16L8'") ∷ SomePins (item 2 1 "a" ∷ []) (pin 19 ∷ []) (word
    2 17 "'keep'" ∷ []) ∷ []) [])
    ≡ (48000 ∷ 608 ∷ [])
unfolding is_before digits
e11 = refl

-- d device 'P16L8'; a pin 19 istype 'collapse';
pub e12 : name_codes pal16l8
    (module_of (ADevice (word 1 10 "d") (word 1 19 "'P16L8'") ∷ SomePins (item 2 1 "a" ∷ []) (pin 19 ∷ []) (word
    2 17 "'collapse'" ∷ []) ∷ []) [])
    ≡ (48000 ∷ 608 ∷ [])
unfolding is_before digits
e12 = refl

-- d device 'P16L8'; a pin 19 istype 'COM';
pub e13 : name_codes pal16l8
    (module_of (ADevice (word 1 10 "d") (word 1 19 "'P16L8'") ∷ SomePins (item 2 1 "a" ∷ []) (pin 19 ∷ []) (word
    2 17 "'COM'" ∷ []) ∷ []) [])
    ≡ (48000 ∷ 608 ∷ [])
unfolding is_before digits
e13 = refl

-- d device 'P16L8'; a pin 19 istype 'Reg_D';
pub e14 : name_codes pal16l8
    (module_of (ADevice (word 1 10 "d") (word 1 19 "'P16L8'") ∷ SomePins (item 2 1 "a" ∷ []) (pin 19 ∷ []) (word
    2 17 "'Reg_D'" ∷ []) ∷ []) [])
    ≡ (48000 ∷ 609 ∷ [])
unfolding is_before digits
e14 = refl

-- d device 'P16L8'; a pin 19 istype 'com dc';
pub e15 : name_codes pal16l8
    (module_of (ADevice (word 1 10 "d") (word 1 19 "'P16L8'") ∷ SomePins (item 2 1 "a" ∷ []) (pin 19 ∷ []) (word
    2 17 "'com dc'" ∷ []) ∷ []) [])
    ≡ (48000 ∷ 612 ∷ [])
unfolding is_before digits
e15 = refl

-- d device 'P16L8'; a pin 19 istype ' com , , dc ';
pub e16 : name_codes pal16l8
    (module_of (ADevice (word 1 10 "d") (word 1 19 "'P16L8'") ∷ SomePins (item 2 1 "a" ∷ []) (pin 19 ∷ []) (word
    2 17 "' com , , dc '" ∷ []) ∷ []) [])
    ≡ (48000 ∷ 612 ∷ [])
unfolding is_before digits
e16 = refl

-- d device 'P16L8'; a pin 19 istype ',';
pub e17 : name_codes pal16l8
    (module_of (ADevice (word 1 10 "d") (word 1 19 "'P16L8'") ∷ SomePins (item 2 1 "a" ∷ []) (pin 19 ∷ []) (word
    2 17 "','" ∷ []) ∷ []) [])
    ≡ (48000 ∷ 608 ∷ [])
unfolding is_before digits
e17 = refl

-- d device 'P16L8'; a pin 19 istype 'reg,reg_d';
pub e18 : name_codes pal16l8
    (module_of (ADevice (word 1 10 "d") (word 1 19 "'P16L8'") ∷ SomePins (item 2 1 "a" ∷ []) (pin 19 ∷ []) (word
    2 17 "'reg,reg_d'" ∷ []) ∷ []) [])
    ≡ (48000 ∷ 609 ∷ [])
unfolding is_before digits
e18 = refl

-- d device 'P16L8'; a,b pin 1,2; a istype 'com'; b istype 'reg';
pub e19 : name_codes pal16l8
    (module_of (ADevice (word 1 10 "d") (word 1 19 "'P16L8'") ∷ SomePins (item 2 1 "a" ∷ item 2 3 "b" ∷ []) (pin
    1 ∷ pin 2 ∷ []) [] ∷ SomeAttributes (item 2 14 "a" ∷ []) (word 2 23 "'com'" ∷ []) ∷ SomeAttributes (item 2
    30 "b" ∷ []) (word 2 39 "'reg'" ∷ []) ∷ []) [])
    ≡ (48000 ∷ 32 ∷ 65 ∷ [])
unfolding is_before digits
e19 = refl

-- d device 'P16R4'; q pin 17 istype 'buffer';
pub e20 : name_codes pal16r4
    (module_of (ADevice (word 1 10 "d") (word 1 19 "'P16R4'") ∷ SomePins (item 2 1 "q" ∷ []) (pin 17 ∷ []) (word
    2 17 "'buffer'" ∷ []) ∷ []) [])
    ≡ (48000 ∷ 544 ∷ [])
unfolding is_before digits
e20 = refl

-- d device 'P16R4'; x,q pin 1,17 istype 'buffer'; EQUATIONS q = x;
pub e21 : name_codes pal16r4
    (module_of (ADevice (word 1 10 "d") (word 1 19 "'P16R4'") ∷ SomePins (item 2 1 "x" ∷ item 2 3 "q" ∷ []) (pin
    1 ∷ pin 17 ∷ []) (word 2 21 "'buffer'" ∷ []) ∷ []) (Equations (assign (name 2 41 "q") (name 2 45 "x") ∷ [])
    ∷ []))
    ≡ (48000 ∷ 32 ∷ 552 ∷ [])
unfolding is_before digits
e21 = refl

-- d device 'P16R4'; x,q pin 1,17 istype 'buffer'; EQUATIONS q.CLK = x;
pub e22 : name_codes pal16r4
    (module_of (ADevice (word 1 10 "d") (word 1 19 "'P16R4'") ∷ SomePins (item 2 1 "x" ∷ item 2 3 "q" ∷ []) (pin
    1 ∷ pin 17 ∷ []) (word 2 21 "'buffer'" ∷ []) ∷ []) (Equations (assign (dotted 2 41 "q" extension.Clk) (name
    2 49 "x") ∷ []) ∷ []))
    ≡ (48000 ∷ 32 ∷ 544 ∷ [])
unfolding is_before digits
e22 = refl

-- d device 'P16R4'; x,q pin 1,17 istype 'buffer'; TRUTH_TABLE (x -> q) 0 -> 1;
pub e23 : name_codes pal16r4
    (module_of (ADevice (word 1 10 "d") (word 1 19 "'P16R4'") ∷ SomePins (item 2 1 "x" ∷ item 2 3 "q" ∷ []) (pin
    1 ∷ pin 17 ∷ []) (word 2 21 "'buffer'" ∷ []) ∷ []) (ATable no_place (name 2 44 "x") false (name 2 49 "q")
    (row (number 0) (number 1) ∷ []) ∷ []))
    ≡ (48000 ∷ 32 ∷ 552 ∷ [])
unfolding is_before digits
e23 = refl
