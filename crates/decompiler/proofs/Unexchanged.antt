-- A logic in which no cell is exchanged is the logic itself.
use Rattle.std.proofs.Common.{◌≡◌, ℕ, suc, Bool, false, List, [], ◌∷◌, refl, ap, ap₂}
use Rattle.decompiler.proofs.Common.{Logic, Levels, NodeValues}
use Rattle.std.proofs.Math.Path.{fun_ext}
use Rattle.pld_machine.specs.Exchanged.{exchanged, exchanged_at, exchanged_from, exchanged_values, in_sense}

module _ (x : ℕ → Bool) (none : (c : ℕ) → x c ≡ false) where
  same_qs : (c : ℕ) (qs : List Bool) → exchanged_from x c qs ≡ qs
  same_qs c [] = refl
  same_qs c (q ∷ qs) = ap₂ (λ p ps. p ∷ ps) (ap (λ b. in_sense b q) (none c)) (same_qs (suc c) qs)

  same_at : (at : Levels) → exchanged_at x at ≡ at
  same_at at = ap (λ qs. let z : Levels = record { pins = at.pins; q = qs; nodes = at.nodes } in z) (same_qs 0 at.q)

  pub same_values : (values : NodeValues) → exchanged_values x values ≡ values
  same_values values = fun_ext (λ at. ap values (same_at at))

  module _ (m : Logic) where
    abbrev with_tests : (Levels → ℕ → Bool) → (Levels → ℕ → Bool → Bool) → (Levels → ℕ → Bool → Bool) → (Levels → ℕ → Bool)
        → (Levels → ℕ → Bool) → (Levels → ℕ → Bool → Bool) → Logic
    with_tests e l n r p d = record m { enabled = e; allows_level = l; allows_node = n; reset = r; preset = p; allows_next = d }

    by_tests : {e e' r r' p p' : Levels → ℕ → Bool} {l l' n n' d d' : Levels → ℕ → Bool → Bool} → e ≡ e' → l ≡ l' → n ≡ n' → r ≡ r' → p ≡ p' → d ≡ d'
        → with_tests e l n r p d ≡ with_tests e' l' n' r' p' d'
    by_tests a b c f g h = rw (a, b, c, f, g, h) refl

    pub same_logic : exchanged x m ≡ m
    same_logic =
        by_tests (fun_ext (λ at. ap m.enabled (same_at at))) (fun_ext (λ at. ap m.allows_level (same_at at))) (fun_ext (λ at. ap m.allows_node (same_at at)))
        (fun_ext (λ at. ap m.reset (same_at at))) (fun_ext (λ at. ap m.preset (same_at at)))
        (fun_ext (λ at. fun_ext (λ c. fun_ext (λ q. ap₂ (λ a b. m.allows_next a c (in_sense b q)) (same_at at) (none c)))))
