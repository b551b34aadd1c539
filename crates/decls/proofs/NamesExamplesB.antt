-- Accepted names: sources as trees, and what a second implementation of the language answers.
use Rattle.std.proofs.Common.{◌≡◌, [], ◌∷◌, false, refl}
use Rattle.decls.proofs.Common.{digits, is_before, ADevice, SomePins, SomeNodes, SomeConstants, Equations, ATable}
use Rattle.abel_tree.specs.declared.words.Extension.TheVariants as extension
use Rattle.abel_tree.specs.declared.words.Binary.TheVariants as binary
use Rattle.decls.proofs.WrittenModules.{no_place, word, number, special, name, dotted, one, span, set, paren, complement, operator, assign, clocked, row, item, items, pin, pins_to, module_of, pal16l8, pal16r6, pal16r8, gal22v10, name_codes}

-- d device 'P16R6'; q pin 17 istype 'buffer';
pub e0 : name_codes pal16r6
    (module_of (ADevice (word 1 10 "d") (word 1 19 "'P16R6'") ∷ SomePins (item 2 1 "q" ∷ []) (pin 17 ∷ []) (word
    2 17 "'buffer'" ∷ []) ∷ []) [])
    ≡ (48000 ∷ 544 ∷ [])
unfolding is_before digits
e0 = refl

-- d device 'P16R6'; x,q pin 1,17 istype 'buffer'; EQUATIONS q = x;
pub e1 : name_codes pal16r6
    (module_of (ADevice (word 1 10 "d") (word 1 19 "'P16R6'") ∷ SomePins (item 2 1 "x" ∷ item 2 3 "q" ∷ []) (pin
    1 ∷ pin 17 ∷ []) (word 2 21 "'buffer'" ∷ []) ∷ []) (Equations (assign (name 2 41 "q") (name 2 45 "x") ∷ [])
    ∷ []))
    ≡ (48000 ∷ 32 ∷ 552 ∷ [])
unfolding is_before digits
e1 = refl

-- d device 'P16R6'; x,q pin 1,17 istype 'buffer'; EQUATIONS q.CLK = x;
pub e2 : name_codes pal16r6
    (module_of (ADevice (word 1 10 "d") (word 1 19 "'P16R6'") ∷ SomePins (item 2 1 "x" ∷ item 2 3 "q" ∷ []) (pin
    1 ∷ pin 17 ∷ []) (word 2 21 "'buffer'" ∷ []) ∷ []) (Equations (assign (dotted 2 41 "q" extension.Clk) (name
    2 49 "x") ∷ []) ∷ []))
    ≡ (48000 ∷ 32 ∷ 544 ∷ [])
unfolding is_before digits
e2 = refl

-- d device 'P16R6'; x,q pin 1,17 istype 'buffer'; TRUTH_TABLE (x -> q) 0 -> 1;
pub e3 : name_codes pal16r6
    (module_of (ADevice (word 1 10 "d") (word 1 19 "'P16R6'") ∷ SomePins (item 2 1 "x" ∷ item 2 3 "q" ∷ []) (pin
    1 ∷ pin 17 ∷ []) (word 2 21 "'buffer'" ∷ []) ∷ []) (ATable no_place (name 2 44 "x") false (name 2 49 "q")
    (row (number 0) (number 1) ∷ []) ∷ []))
    ≡ (48000 ∷ 32 ∷ 552 ∷ [])
unfolding is_before digits
e3 = refl

-- d device 'P16R8'; q pin 17 istype 'buffer';
pub e4 : name_codes pal16r8
    (module_of (ADevice (word 1 10 "d") (word 1 19 "'P16R8'") ∷ SomePins (item 2 1 "q" ∷ []) (pin 17 ∷ []) (word
    2 17 "'buffer'" ∷ []) ∷ []) [])
    ≡ (48000 ∷ 544 ∷ [])
unfolding is_before digits
e4 = refl

-- d device 'P16R8'; x,q pin 1,17 istype 'buffer'; EQUATIONS q = x;
pub e5 : name_codes pal16r8
    (module_of (ADevice (word 1 10 "d") (word 1 19 "'P16R8'") ∷ SomePins (item 2 1 "x" ∷ item 2 3 "q" ∷ []) (pin
    1 ∷ pin 17 ∷ []) (word 2 21 "'buffer'" ∷ []) ∷ []) (Equations (assign (name 2 41 "q") (name 2 45 "x") ∷ [])
    ∷ []))
    ≡ (48000 ∷ 32 ∷ 552 ∷ [])
unfolding is_before digits
e5 = refl

-- d device 'P16R8'; x,q pin 1,17 istype 'buffer'; EQUATIONS q.CLK = x;
pub e6 : name_codes pal16r8
    (module_of (ADevice (word 1 10 "d") (word 1 19 "'P16R8'") ∷ SomePins (item 2 1 "x" ∷ item 2 3 "q" ∷ []) (pin
    1 ∷ pin 17 ∷ []) (word 2 21 "'buffer'" ∷ []) ∷ []) (Equations (assign (dotted 2 41 "q" extension.Clk) (name
    2 49 "x") ∷ []) ∷ []))
    ≡ (48000 ∷ 32 ∷ 544 ∷ [])
unfolding is_before digits
e6 = refl

-- d device 'P16R8'; q pin 17 istype 'reg,invert';
pub e7 : name_codes pal16r8
    (module_of (ADevice (word 1 10 "d") (word 1 19 "'P16R8'") ∷ SomePins (item 2 1 "q" ∷ []) (pin 17 ∷ []) (word
    2 17 "'reg,invert'" ∷ []) ∷ []) [])
    ≡ (48000 ∷ 545 ∷ [])
unfolding is_before digits
e7 = refl

-- d device 'P16L8'; q pin 17 istype 'reg,buffer';
pub e8 : name_codes pal16l8
    (module_of (ADevice (word 1 10 "d") (word 1 19 "'P16L8'") ∷ SomePins (item 2 1 "q" ∷ []) (pin 17 ∷ []) (word
    2 17 "'reg,buffer'" ∷ []) ∷ []) [])
    ≡ (48000 ∷ 547 ∷ [])
unfolding is_before digits
e8 = refl

-- d device 'P16L8'; n0..n127 node;
pub e9 : name_codes pal16l8
    (module_of (ADevice (word 1 10 "d") (word 1 19 "'P16L8'") ∷ SomeNodes (items 2 1 "n0" 2 5 "n127" ∷ []) [] []
    ∷ []) [])
    ≡ (48000 ∷ 16000 ∷ 16016 ∷ 16032 ∷ 16048 ∷ 16064 ∷ 16080 ∷ 16096 ∷ 16112 ∷ 16128 ∷ 16144 ∷ 16160 ∷ 16176 ∷
    16192 ∷ 16208 ∷ 16224 ∷ 16240 ∷ 16256 ∷ 16272 ∷ 16288 ∷ 16304 ∷ 16320 ∷ 16336 ∷ 16352 ∷ 16368 ∷ 16384 ∷
    16400 ∷ 16416 ∷ 16432 ∷ 16448 ∷ 16464 ∷ 16480 ∷ 16496 ∷ 16512 ∷ 16528 ∷ 16544 ∷ 16560 ∷ 16576 ∷ 16592 ∷
    16608 ∷ 16624 ∷ 16640 ∷ 16656 ∷ 16672 ∷ 16688 ∷ 16704 ∷ 16720 ∷ 16736 ∷ 16752 ∷ 16768 ∷ 16784 ∷ 16800 ∷
    16816 ∷ 16832 ∷ 16848 ∷ 16864 ∷ 16880 ∷ 16896 ∷ 16912 ∷ 16928 ∷ 16944 ∷ 16960 ∷ 16976 ∷ 16992 ∷ 17008 ∷
    17024 ∷ 17040 ∷ 17056 ∷ 17072 ∷ 17088 ∷ 17104 ∷ 17120 ∷ 17136 ∷ 17152 ∷ 17168 ∷ 17184 ∷ 17200 ∷ 17216 ∷
    17232 ∷ 17248 ∷ 17264 ∷ 17280 ∷ 17296 ∷ 17312 ∷ 17328 ∷ 17344 ∷ 17360 ∷ 17376 ∷ 17392 ∷ 17408 ∷ 17424 ∷
    17440 ∷ 17456 ∷ 17472 ∷ 17488 ∷ 17504 ∷ 17520 ∷ 17536 ∷ 17552 ∷ 17568 ∷ 17584 ∷ 17600 ∷ 17616 ∷ 17632 ∷
    17648 ∷ 17664 ∷ 17680 ∷ 17696 ∷ 17712 ∷ 17728 ∷ 17744 ∷ 17760 ∷ 17776 ∷ 17792 ∷ 17808 ∷ 17824 ∷ 17840 ∷
    17856 ∷ 17872 ∷ 17888 ∷ 17904 ∷ 17920 ∷ 17936 ∷ 17952 ∷ 17968 ∷ 17984 ∷ 18000 ∷ 18016 ∷ 18032 ∷ [])
unfolding is_before digits
e9 = refl

-- d device 'P16L8'; a = 1; b = a;
pub e10 : name_codes pal16l8
    (module_of (ADevice (word 1 10 "d") (word 1 19 "'P16L8'") ∷ SomeConstants (word 2 1 "a" ∷ []) (number 1 ∷
    []) ∷ SomeConstants (word 2 8 "b" ∷ []) (name 2 12 "a" ∷ []) ∷ []) [])
    ≡ (48000 ∷ 32000 ∷ 32000 ∷ [])
unfolding is_before digits
e10 = refl

-- d device 'GAL22V10'; Y pin 23; Z pin 22; EQUATIONS Y = 1; Z = 0;
pub e11 : name_codes gal22v10
    (module_of (ADevice (word 1 10 "d") (word 1 19 "'GAL22V10'") ∷ SomePins (item 2 1 "Y" ∷ []) (pin 23 ∷ []) []
    ∷ SomePins (item 2 11 "Z" ∷ []) (pin 22 ∷ []) [] ∷ []) (Equations (assign (name 2 31 "Y") (number 1) ∷
    assign (name 2 38 "Z") (number 0) ∷ []) ∷ []))
    ≡ (48000 ∷ 744 ∷ 712 ∷ [])
unfolding is_before digits
e11 = refl

-- d device 'P16L8'; a pin 1; Y pin 12; Z pin 18; EQUATIONS Y = a; Z = Y;
pub e12 : name_codes pal16l8
    (module_of (ADevice (word 1 10 "d") (word 1 19 "'P16L8'") ∷ SomePins (item 2 1 "a" ∷ []) (pin 1 ∷ []) [] ∷
    SomePins (item 2 10 "Y" ∷ []) (pin 12 ∷ []) [] ∷ SomePins (item 2 20 "Z" ∷ []) (pin 18 ∷ []) [] ∷ [])
    (Equations (assign (name 2 40 "Y") (name 2 44 "a") ∷ assign (name 2 47 "Z") (name 2 51 "Y") ∷ []) ∷ []))
    ≡ (48000 ∷ 32 ∷ 392 ∷ 584 ∷ [])
unfolding is_before digits
e12 = refl

-- d device 'P16L8'; a,b pin 1,2; Y,Z pin 18,17; EQUATIONS Y = !(a & Z); Z = !(b & Y);
pub e13 : name_codes pal16l8
    (module_of (ADevice (word 1 10 "d") (word 1 19 "'P16L8'") ∷ SomePins (item 2 1 "a" ∷ item 2 3 "b" ∷ []) (pin
    1 ∷ pin 2 ∷ []) [] ∷ SomePins (item 2 14 "Y" ∷ item 2 16 "Z" ∷ []) (pin 18 ∷ pin 17 ∷ []) [] ∷ [])
    (Equations (assign (name 2 39 "Y") (complement (paren (operator binary.And (name 2 45 "a") (name 2 49
    "Z")))) ∷ assign (name 2 53 "Z") (complement (paren (operator binary.And (name 2 59 "b") (name 2 63 "Y"))))
    ∷ []) ∷ []))
    ≡ (48000 ∷ 32 ∷ 64 ∷ 584 ∷ 552 ∷ [])
unfolding is_before digits
e13 = refl

-- d device 'GAL22V10'; a,b pin 2,3; y pin 23; q pin 22 istype 'reg,buffer'; TRUTH_TABLE ([a,b] -> y) [1,.X.] ->
-- 1; [.X.,1] -> 0; [0,0] -> .X.; EQUATIONS q := y;
pub e14 : name_codes gal22v10
    (module_of (ADevice (word 1 10 "d") (word 1 19 "'GAL22V10'") ∷ SomePins (item 2 1 "a" ∷ item 2 3 "b" ∷ [])
    (pin 2 ∷ pin 3 ∷ []) [] ∷ SomePins (item 2 14 "y" ∷ []) (pin 23 ∷ []) [] ∷ SomePins (item 2 24 "q" ∷ [])
    (pin 22 ∷ []) (word 2 40 "'reg,buffer'" ∷ []) ∷ []) (ATable no_place (set (one (name 2 68 "a") ∷ one (name 2
    70 "b") ∷ [])) false (name 2 76 "y") (row (set (one (number 1) ∷ one (special 88) ∷ [])) (number 1) ∷ row
    (set (one (special 88) ∷ one (number 1) ∷ [])) (number 0) ∷ row (set (one (number 0) ∷ one (number 0) ∷ []))
    (special 88) ∷ []) ∷ Equations (clocked (name 3 39 "q") (name 3 44 "y") ∷ []) ∷ []))
    ≡ (48000 ∷ 64 ∷ 96 ∷ 744 ∷ 715 ∷ [])
unfolding is_before digits
e14 = refl

-- d device 'GAL22V10'; a10..a0,b9..b0 pin 1..11,13,14..17,19..23; Y pin 18; EQUATIONS Y = [a10..a0] ==
-- [b9..b0,a0];
pub e15 : name_codes gal22v10
    (module_of (ADevice (word 1 10 "d") (word 1 19 "'GAL22V10'") ∷ SomePins (items 2 1 "a10" 2 6 "a0" ∷ items 2
    9 "b9" 2 13 "b0" ∷ []) (pins_to 1 11 ∷ pin 13 ∷ pins_to 14 17 ∷ pins_to 19 23 ∷ []) [] ∷ SomePins (item 2 44
    "Y" ∷ []) (pin 18 ∷ []) [] ∷ []) (Equations (assign (name 2 64 "Y") (operator binary.Equal (set (span (word
    2 69 "a10") (word 2 74 "a0") ∷ [])) (set (span (word 2 82 "b9") (word 2 86 "b0") ∷ one (name 2 89 "a0") ∷
    []))) ∷ []) ∷ []))
    ≡ (48000 ∷ 32 ∷ 64 ∷ 96 ∷ 128 ∷ 160 ∷ 192 ∷ 224 ∷ 256 ∷ 288 ∷ 320 ∷ 352 ∷ 416 ∷ 448 ∷ 480 ∷ 512 ∷ 544 ∷ 608 ∷
    640 ∷ 672 ∷ 704 ∷ 736 ∷ 584 ∷ [])
unfolding is_before digits
e15 = refl
