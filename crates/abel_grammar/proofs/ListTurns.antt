-- A loop that pushes one item a turn reads what repeated reads.
use Rattle.std.proofs.Common.{◌≡◌, ◌<◌, Bool, true, false, List, [], ◌∷◌, ◌++◌, length, Result, Ok, Err, refl, sym, ap, ◌∙◌, append_assoc}
use Rattle.abel_grammar.proofs.Common.{append-nil, Stop, Reader, ◌>>=◌, starts, read_repeated}
use Rattle.abel_grammar.proofs.RepeatedTurns.{repeated_turn, repeated_fails, repeated_ends}

-- what was read before, and what is still read
abbrev pub with_front : {X A : Type 0} → List A → Result (List A × List X) (Stop X) → Result (List A × List X) (Stop X)
with_front front read = read >>= λ x. Ok (front ++ x.0, x.1)

pub front_first : {X A : Type 0} (front : List A) (t : A) (read : Result (List A × List X) (Stop X)) → with_front front (read >>= λ xs. Ok (t ∷ xs.0, xs.1)) ≡ with_front (front ++ t ∷ []) read
front_first front t (Ok y) = ap (λ (ts : List _). Ok (ts, y.1)) (sym (append_assoc front (t ∷ []) y.0))
front_first front t (Err s) = refl

pub front_none : {X A : Type 0} (read : Result (List A × List X) (Stop X)) → with_front [] read ≡ read
front_none (Ok y) = refl
front_none (Err s) = refl

module _ {X A : Type 0} (r : Reader X A) (first : X → Bool) (shorter : (ts : List X) (x : A × List X) → r ts ≡ Ok x → length x.1 < length ts) where
  pub list_turn : (front : List A) (ts : List X) (x : A × List X) (total : Result (List A × List X) (Stop X)) → starts first ts ≡ true → r ts ≡ Ok x
      → with_front front (read_repeated first r ts) ≡ total → with_front (front ++ x.0 ∷ []) (read_repeated first r x.1) ≡ total
  list_turn front ts x total e d so_far = sym (front_first front x.0 _) ∙ ap (with_front front) (sym (repeated_turn r first shorter ts x e d)) ∙ so_far

  pub list_ends : (front : List A) (ts : List X) (total : Result (List A × List X) (Stop X)) → starts first ts ≡ false → with_front front (read_repeated first r ts) ≡ total → total ≡ Ok (front, ts)
  list_ends front ts total e so_far = sym so_far ∙ ap (with_front front) (repeated_ends r first shorter ts e) ∙ ap (λ (l : List A). Ok (l, ts)) (append-nil front)

  pub list_fails : (front : List A) (ts : List X) (total : Result (List A × List X) (Stop X)) (s : Stop X) → starts first ts ≡ true → r ts ≡ Err s → with_front front (read_repeated first r ts) ≡ total → total ≡ Err s
  list_fails front ts total s e d so_far = sym so_far ∙ ap (with_front front) (repeated_fails r first shorter ts s e d)
