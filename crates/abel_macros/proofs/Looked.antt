-- Look-ups in the tables, and one name more.
use Rattle.std.proofs.Common.{◌≡◌, ℕ, Bool, true, false, List, [], ◌∷◌, Option, None, Some, refl, sym, ap, ◌∙◌, inl, inr, if◌then◌else◌, IfSome, IfNone}
use Rattle.abel_macros.proofs.Common.{Vec, bytes_eq, option_copied, bytes_eq-Decides, bool_cases, same_bytes, with_name, under, by_bytes}
use Rattle.std.specs.Map.{lookup}
use Rattle.std.specs.Borrow.{Bor}
use Rattle.indexmap.specs.IndexMap.{insert_entry}

pub looked_up : {X : Type 0} (es : List (Vec ℕ × X)) (w : List ℕ) → lookup (λ k. bytes_eq w k.items) es ≡ under (by_bytes es) w
looked_up [] w = refl
looked_up {X} (e ∷ es) w = ap (λ (o : Option X). if bytes_eq w e.0.items then Some e.1 else o) (looked_up es w)

bytes_sym : (v w : List ℕ) → bytes_eq v w ≡ bytes_eq w v
bytes_sym v w =
    elim (bool_cases (bytes_eq v w)) [
      | inl e ↦ let s : v ≡ w = same_bytes v w e in e ∙ sym ((bytes_eq-Decides w v).1 (sym s))
      | inr e ↦ elim (bool_cases (bytes_eq w v)) [
        | inl d ↦ absurd (let t : bytes_eq v w ≡ true = (bytes_eq-Decides v w).1 (sym (same_bytes w v d)) in let bad : false ≡ true = sym e ∙ t in cc)
        | inr d ↦ e ∙ sym d
      ]
    ]

-- a name that is this one looks it up, and no other does
module _ {X : Type 0} (v old : X) (w n : List ℕ) (rest : Option X) where
  same_name : (m : List ℕ) → n ≡ m → (if bytes_eq w m then Some v else rest) ≡ (if bytes_eq n w then Some v else (if bytes_eq w m then Some old else rest))
  same_name m e =
      elim (bool_cases (bytes_eq w m)) [
        | inl t ↦ let s : bytes_eq n w ≡ true = ap (λ (z : List ℕ). bytes_eq z w) e ∙ bytes_sym m w ∙ t in rw t (rw s refl)
        | inr f ↦ let s : bytes_eq n w ≡ false = ap (λ (z : List ℕ). bytes_eq z w) e ∙ bytes_sym m w ∙ f in rw f (rw s refl)
      ]

  other_name : (m : List ℕ) (looked : Option X) → bytes_eq n m ≡ false → looked ≡ (if bytes_eq n w then Some v else rest)
      → (if bytes_eq w m then Some old else looked) ≡ (if bytes_eq n w then Some v else (if bytes_eq w m then Some old else rest))
  other_name m looked d h =
      elim (bool_cases (bytes_eq w m)) [
        | inl t ↦
            let s : bytes_eq n w ≡ false = ap (bytes_eq n) (same_bytes w m t) ∙ d in
            rw t (rw s refl)
        | inr f ↦ rw f h
      ]

pub inserted : {X : Type 0} (es : List (Vec ℕ × X)) (key : Vec ℕ) (v : X) (w : List ℕ)
    → under (by_bytes (insert_entry (λ a b. bytes_eq a.items b.items) es key v)) w ≡ with_name key.items v (under (by_bytes es)) w
inserted {X} [] key v w = ap (λ (t : Bool). if t then Some v else None) (bytes_sym w key.items)
inserted {X} (e ∷ es) key v w =
    elim (bool_cases (bytes_eq key.items e.0.items)) [
      | inl t ↦ rw t (same_name v e.1 w key.items (under (by_bytes es) w) e.0.items (same_bytes key.items e.0.items t))
      | inr f ↦ rw f (other_name v e.1 w key.items (under (by_bytes es) w) e.0.items (under (by_bytes (insert_entry (λ a b. bytes_eq a.items b.items) es key v)) w) f (inserted es key v w))
    ]

-- the same as a table
pub inserted_table : {X : Type 0} (es : List (Vec ℕ × X)) (key : Vec ℕ) (v : X)
    → under (by_bytes (insert_entry (λ a b. bytes_eq a.items b.items) es key v)) ≡ with_name key.items v (under (by_bytes es))
inserted_table es key v = λ i w. inserted es key v w i

pub copied_some : {X : Type 0} (o : Option (Bor X)) (u : Option X) → option_copied o ≡ u → IfSome o (λ m. u ≡ Some m.now)
copied_some None u e = tt
copied_some (Some m) u e = sym e

pub copied_none : {X : Type 0} (o : Option (Bor X)) (u : Option X) → option_copied o ≡ u → IfNone o (u ≡ None)
copied_none None u e = sym e
copied_none (Some m) u e = tt
