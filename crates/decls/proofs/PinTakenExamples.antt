-- Pins with two names: sources as trees, and what a second implementation of the language answers.
use Rattle.std.proofs.Common.{◌≡◌, Some, [], ◌∷◌, refl, codes}
use Rattle.decls.proofs.Common.{digits, is_before, ADevice, SomePins, first_name_refusal}
use Rattle.decls.specs.declared.fault.NameFault.TheVariants as fault
use Rattle.decls.proofs.WrittenModules.{at, word, item, low_item, items, pin, pins_to, module_of, pal16l8}

-- d device 'P16L8'; a pin 1; b pin 1;
pub e0 : first_name_refusal pal16l8
    (module_of (ADevice (word 1 10 "d") (word 1 19 "'P16L8'") ∷ SomePins (item 2 1 "a" ∷ []) (pin 1 ∷ []) [] ∷
    SomePins (item 2 10 "b" ∷ []) (pin 1 ∷ []) [] ∷ []) [])
    ≡ Some (fault.PinTaken (at 2 10) (codes "b"))
unfolding is_before digits
e0 = refl

-- d device 'P16L8'; a,b pin 1,1;
pub e1 : first_name_refusal pal16l8
    (module_of (ADevice (word 1 10 "d") (word 1 19 "'P16L8'") ∷ SomePins (item 2 1 "a" ∷ item 2 3 "b" ∷ []) (pin
    1 ∷ pin 1 ∷ []) [] ∷ []) [])
    ≡ Some (fault.PinTaken (at 2 3) (codes "b"))
unfolding is_before digits
e1 = refl

-- d device 'P16L8'; a pin 2; b1..b3 pin 1..3;
pub e2 : first_name_refusal pal16l8
    (module_of (ADevice (word 1 10 "d") (word 1 19 "'P16L8'") ∷ SomePins (item 2 1 "a" ∷ []) (pin 2 ∷ []) [] ∷
    SomePins (items 2 10 "b1" 2 14 "b3" ∷ []) (pins_to 1 3 ∷ []) [] ∷ []) [])
    ≡ Some (fault.PinTaken (at 2 10) (codes "b2"))
unfolding is_before digits
e2 = refl

-- d device 'P16L8'; !a pin 1; b pin 1;
pub e3 : first_name_refusal pal16l8
    (module_of (ADevice (word 1 10 "d") (word 1 19 "'P16L8'") ∷ SomePins (low_item 2 2 "a" ∷ []) (pin 1 ∷ []) []
    ∷ SomePins (item 2 11 "b" ∷ []) (pin 1 ∷ []) [] ∷ []) [])
    ≡ Some (fault.PinTaken (at 2 11) (codes "b"))
unfolding is_before digits
e3 = refl
