-- Lists that are the same element by element.
use Rattle.std.proofs.Common.{◌≡◌, Bool, true, false, ℕ, List, [], ◌∷◌, ap, refl, sym}
use Rattle.std.proofs.lemmas.Bool.{and_parts}
use Rattle.std.specs.Cmp.Lexicographic.{same_text}
use lib.Pointwise.{pointwise}
use mathlib.Core.Bool.{beq}
use Rattle.pld_base.specs.declared.point.Vector.{Vector}
use Rattle.pld_base.specs.contracts.point.VectorPartialEq.TheImpl.{eq-value}

pub same_lists : {X : Type 0} (E : X → X → Bool) → ((x y : X) → E x y ≡ true → x ≡ y) → (xs ys : List X) → pointwise E xs ys ≡ true → xs ≡ ys
same_lists E same [] [] is = refl
same_lists E same [] (y ∷ ys) is = absurd cc
same_lists E same (x ∷ xs) [] is = absurd cc
same_lists E same (x ∷ xs) (y ∷ ys) is =
    let parts = and_parts (E x y) (pointwise E xs ys) is in
    rw (same x y parts.0, same_lists E same xs ys parts.1) refl

pub same_level : (x y : Bool) → beq x y ≡ true → x ≡ y
same_level true true is = refl
same_level true false is = absurd cc
same_level false true is = absurd cc
same_level false false is = refl

pub same_vector : (x y : Vector) → eq-value.it x y ≡ true → x ≡ y
same_vector x y is = ap (λ (chars : List ℕ). of chars) (same_text x.chars y.chars (sym is))
  where
    of : List ℕ → Vector
    of chars = record { chars = chars }
