-- The 129th node: sources as trees, and what a second implementation of the language answers.
use Rattle.std.proofs.Common.{◌≡◌, Some, [], ◌∷◌, refl, codes}
use Rattle.decls.proofs.Common.{digits, is_before, ADevice, SomeNodes, first_name_refusal}
use Rattle.decls.specs.declared.fault.NameFault.TheVariants as fault
use Rattle.decls.proofs.WrittenModules.{at, word, item, items, module_of, pal16l8}

-- d device 'P16L8'; n0..n128 node;
pub e0 : first_name_refusal pal16l8
    (module_of (ADevice (word 1 10 "d") (word 1 19 "'P16L8'") ∷ SomeNodes (items 2 1 "n0" 2 5 "n128" ∷ []) [] []
    ∷ []) [])
    ≡ Some (fault.TooManyNodes (at 2 1) (codes "n128"))
unfolding is_before digits
e0 = refl

-- d device 'P16L8'; n0..n126 node; a,b,c node;
pub e1 : first_name_refusal pal16l8
    (module_of (ADevice (word 1 10 "d") (word 1 19 "'P16L8'") ∷ SomeNodes (items 2 1 "n0" 2 5 "n126" ∷ []) [] []
    ∷ SomeNodes (item 2 16 "a" ∷ item 2 18 "b" ∷ item 2 20 "c" ∷ []) [] [] ∷ []) [])
    ≡ Some (fault.TooManyNodes (at 2 18) (codes "b"))
unfolding is_before digits
e1 = refl
