-- Any number of a form is read item by item, as a loop does.
use Rattle.std.proofs.Common.{◌≡◌, ℕ, zero, suc, ◌≤◌, ◌<◌, ◌⊎◌, inl, inr, Bool, true, false, List, [], ◌∷◌, length, Result, Ok, Err, refl, arith}
use Rattle.abel_grammar.proofs.Common.{Stop, Reader, ◌>>=◌, starts, read_many, read_repeated}
use Rattle.abel_grammar.proofs.Laws.{result_cases}

bool_cases : (b : Bool) → (b ≡ true) ⊎ (b ≡ false)
bool_cases true = inl refl
bool_cases false = inr refl

module _ {X A : Type 0} (ra : Reader X A) (fa : X → Bool) (shorter : (ts : List X) (x : A × List X) → ra ts ≡ Ok x → length x.1 < length ts) where
  many_fuel : (n m : ℕ) (ts : List X) → length ts ≤ n → length ts ≤ m → read_many fa ra n ts ≡ read_many fa ra m ts
  many_fuel zero zero ts h k = refl
  many_fuel zero (suc m) [] h k = refl
  many_fuel zero (suc m) (x ∷ ts) h k = absurd (omega arith)
  many_fuel (suc n) zero [] h k = refl
  many_fuel (suc n) zero (x ∷ ts) h k = absurd (omega arith)
  many_fuel (suc n) (suc m) ts h k =
      elim (bool_cases (starts fa ts)) [
        | inl e ↦
            elim (result_cases (ra ts)) [
              | inl (x, d) ↦ let lt = shorter ts x d in rw (e, d, many_fuel n m x.1 (omega arith) (omega arith)) refl
              | inr (s, d) ↦ rw (e, d) refl
            ]
        | inr e ↦ rw e refl
      ]

  turn : (n : ℕ) (ts : List X) (x : A × List X) → length ts ≤ n → starts fa ts ≡ true → ra ts ≡ Ok x
      → read_many fa ra n ts ≡ (read_repeated fa ra x.1 >>= λ xs. Ok (x.0 ∷ xs.0, xs.1))
  turn zero [] x le e d = absurd cc
  turn zero (y ∷ ts) x le e d = absurd (omega arith)
  turn (suc n) ts x le e d = let lt = shorter ts x d in rw (e, d, many_fuel n (length x.1) x.1 (omega arith) (omega arith)) refl

  pub repeated_turn : (ts : List X) (x : A × List X) → starts fa ts ≡ true → ra ts ≡ Ok x → read_repeated fa ra ts ≡ (read_repeated fa ra x.1 >>= λ xs. Ok (x.0 ∷ xs.0, xs.1))
  repeated_turn ts x e d = turn (length ts) ts x (omega arith) e d

  many_fails : (n : ℕ) (ts : List X) (s : Stop X) → length ts ≤ n → starts fa ts ≡ true → ra ts ≡ Err s → read_many fa ra n ts ≡ Err s
  many_fails zero [] s le e d = absurd cc
  many_fails zero (y ∷ ts) s le e d = absurd (omega arith)
  many_fails (suc n) ts s le e d = rw (e, d) refl

  pub repeated_fails : (ts : List X) (s : Stop X) → starts fa ts ≡ true → ra ts ≡ Err s → read_repeated fa ra ts ≡ Err s
  repeated_fails ts s e d = many_fails (length ts) ts s (omega arith) e d

  many_ends : (n : ℕ) (ts : List X) → starts fa ts ≡ false → read_many fa ra n ts ≡ Ok ([], ts)
  many_ends zero ts e = refl
  many_ends (suc n) ts e = rw e refl

  pub repeated_ends : (ts : List X) → starts fa ts ≡ false → read_repeated fa ra ts ≡ Ok ([], ts)
  repeated_ends ts e = many_ends (length ts) ts e
