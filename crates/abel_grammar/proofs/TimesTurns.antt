-- A loop that reads an entry each turn, so many times, gives what times gives.
use Rattle.std.proofs.Common.{◌≡◌, ℕ, zero, suc, List, [], ◌∷◌, ◌++◌, Result, Ok, Err, refl, sym, ap, ◌∙◌}
use Rattle.abel_grammar.proofs.Common.{append-nil, Stop, Reader, ◌>>=◌, read_times}
use Rattle.abel_grammar.proofs.ListTurns.{with_front, front_first}

-- an entry before those that are read
abbrev before : {X A : Type 0} → A → Result (List A × List X) (Stop X) → Result (List A × List X) (Stop X)
before t read = read >>= λ xs. Ok (t ∷ xs.0, xs.1)

abbrev paired : {X A : Type 0} → A → Result (List A × List X) (Stop X) → Result ((A × List A) × List X) (Stop X)
paired t read = read >>= λ y. Ok ((t, y.0), y.1)

abbrev made_list : {X A : Type 0} → Result ((A × List A) × List X) (Stop X) → Result (List A × List X) (Stop X)
made_list read = read >>= λ z. Ok (z.0.0 ∷ z.0.1, z.1)

consed : {X A : Type 0} (t : A) (read : Result (List A × List X) (Stop X)) → made_list (paired t read) ≡ before t read
consed t (Ok y) = refl
consed t (Err s) = refl

module _ {X A : Type 0} (r : Reader X A) where
  pub times_turn : (front : List A) (n : ℕ) (ts : List X) (x : A × List X) (total : Result (List A × List X) (Stop X)) → r ts ≡ Ok x
      → with_front front (read_times (suc n) r ts) ≡ total → with_front (front ++ x.0 ∷ []) (read_times n r x.1) ≡ total
  times_turn front n ts x total e so_far =
      sym (front_first front x.0 (read_times n r x.1)) ∙ ap (with_front front) (sym (whole e)) ∙ so_far
    where
      whole : r ts ≡ Ok x → read_times (suc n) r ts ≡ before x.0 (read_times n r x.1)
      whole e = rw e (consed x.0 (read_times n r x.1))

  pub times_ends : (front : List A) (ts : List X) (total : Result (List A × List X) (Stop X)) → with_front front (read_times zero r ts) ≡ total → total ≡ Ok (front, ts)
  times_ends front ts total so_far = sym so_far ∙ ap (λ (l : List A). Ok (l, ts)) (append-nil front)

  pub times_fails : (front : List A) (n : ℕ) (ts : List X) (total : Result (List A × List X) (Stop X)) (s : Stop X) → r ts ≡ Err s → with_front front (read_times (suc n) r ts) ≡ total → total ≡ Err s
  times_fails front n ts total s e so_far = sym so_far ∙ whole e
    where
      whole : r ts ≡ Err s → with_front front (read_times (suc n) r ts) ≡ Err s
      whole e = rw e refl
