-- Whether the last state has no transition, by the last state itself.
use Rattle.std.proofs.Common.{◌≡◌, ℕ, suc, ◌-◌, ◌==◌, List, [], ◌∷◌, length, map, Some, refl, ap, subst, arith, slice_get}
use Rattle.section_parsers.proofs.Common.{nat_tests, Arm, view_arm, view_state}
use Rattle.abel_tree.specs.declared.diagrams.State.{State}
use Rattle.abel_grammar.specs.Modules.{is_empty, last_is_bare}

pub last_bare : (ss : List State) (s : State) → slice_get ss (length ss - 1) ≡ Some s → last_is_bare (map view_state ss) ≡ is_empty (map view_arm s.transitions)
last_bare [] s e = absurd cc
last_bare (a ∷ []) s e = let same : a ≡ s = cc in ap (λ (x : State). is_empty (map view_arm x.transitions)) same
last_bare (a ∷ b ∷ more) s e =
    let next : length (a ∷ b ∷ more) - 1 ≡ suc (length (b ∷ more) - 1) = omega arith in
    last_bare (b ∷ more) s (subst (λ n. slice_get (a ∷ b ∷ more) n ≡ Some s) next e)

-- no transition is seen if there isn't one
pub none_seen : (xs : List Arm) → (length xs == 0) ≡ is_empty (map view_arm xs)
none_seen [] = refl
none_seen (x ∷ xs) = grind (arith, nat_tests)
