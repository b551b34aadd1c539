-- A loop that joins one list a turn to what it has reads what repeated reads, with the lists one after the other.
use Rattle.std.proofs.Common.{◌≡◌, ◌<◌, Bool, true, false, List, [], ◌∷◌, ◌++◌, length, Result, Ok, Err, refl, sym, ap, ◌∙◌, append_assoc}
use Rattle.abel_grammar.proofs.Common.{append-nil, Stop, Reader, ◌>>=◌, starts, read_repeated, read_made, flatten}
use Rattle.abel_grammar.proofs.RepeatedTurns.{repeated_turn, repeated_fails, repeated_ends}

-- what was read before, and the lists that are still read
abbrev pub with_lists : {X A : Type 0} → List A → Result (List (List A) × List X) (Stop X) → Result (List A × List X) (Stop X)
with_lists front read = read >>= λ x. Ok (front ++ flatten x.0, x.1)

lists_first : {X A : Type 0} (front l : List A) (read : Result (List (List A) × List X) (Stop X)) → with_lists front (read >>= λ xs. Ok (l ∷ xs.0, xs.1)) ≡ with_lists (front ++ l) read
lists_first front l (Ok y) = ap (λ (ts : List _). Ok (ts, y.1)) (sym (append_assoc front l (flatten y.0)))
lists_first front l (Err s) = refl

pub lists_none : {X A : Type 0} (read : Result (List (List A) × List X) (Stop X)) → with_lists [] read ≡ (read >>= λ x. Ok (flatten x.0, x.1))
lists_none (Ok y) = refl
lists_none (Err s) = refl

module _ {X A : Type 0} (r : Reader X (List A)) (first : X → Bool) (shorter : (ts : List X) (x : List A × List X) → r ts ≡ Ok x → length x.1 < length ts) where
  pub lists_turn : (front : List A) (ts : List X) (x : List A × List X) (total : Result (List A × List X) (Stop X)) → starts first ts ≡ true → r ts ≡ Ok x
      → with_lists front (read_repeated first r ts) ≡ total → with_lists (front ++ x.0) (read_repeated first r x.1) ≡ total
  lists_turn front ts x total e d so_far = sym (lists_first front x.0 _) ∙ ap (with_lists front) (sym (repeated_turn r first shorter ts x e d)) ∙ so_far

  pub lists_end : (front : List A) (ts : List X) (total : Result (List A × List X) (Stop X)) → starts first ts ≡ false → with_lists front (read_repeated first r ts) ≡ total → total ≡ Ok (front, ts)
  lists_end front ts total e so_far = sym so_far ∙ ap (with_lists front) (repeated_ends r first shorter ts e) ∙ ap (λ (l : List A). Ok (l, ts)) (append-nil front)

  pub lists_fail : (front : List A) (ts : List X) (total : Result (List A × List X) (Stop X)) (s : Stop X) → starts first ts ≡ true → r ts ≡ Err s → with_lists front (read_repeated first r ts) ≡ total → total ≡ Err s
  lists_fail front ts total s e d so_far = sym so_far ∙ ap (with_lists front) (repeated_fails r first shorter ts s e d)
