-- A loop that joins one part a turn from the left reads what chain reads.
use Rattle.std.proofs.Common.{◌≡◌, ◌<◌, Bool, true, false, List, [], ◌∷◌, length, Result, Ok, Err, refl, sym, ap, ◌∙◌}
use Rattle.abel_grammar.proofs.Common.{grouped, Stop, Reader, ◌>>=◌, starts, read_repeated, read_chain}
use Rattle.abel_grammar.proofs.RepeatedTurns.{repeated_turn, repeated_fails, repeated_ends}

-- what was joined before, and the parts that are still read
abbrev pub go_on : {X A B : Type 0} → (A → B → A) → A → Result (List B × List X) (Stop X) → Result (A × List X) (Stop X)
go_on join left read = read >>= λ x. Ok (grouped join left x.0, x.1)

abbrev paired : {X A B : Type 0} → A → Result (List B × List X) (Stop X) → Result ((A × List B) × List X) (Stop X)
paired left read = read >>= λ y. Ok ((left, y.0), y.1)

grouped_parts : {X A B : Type 0} (join : A → B → A) (left : A) (read : Result (List B × List X) (Stop X))
    → (paired left read >>= λ x. Ok (grouped join x.0.0 x.0.1, x.1)) ≡ go_on join left read
grouped_parts join left (Ok x) = refl
grouped_parts join left (Err s) = refl

part_first : {X A B : Type 0} (join : A → B → A) (left : A) (x : B) (read : Result (List B × List X) (Stop X))
    → go_on join left (read >>= λ xs. Ok (x ∷ xs.0, xs.1)) ≡ go_on join (join left x) read
part_first join left x (Ok y) = refl
part_first join left x (Err s) = refl

module _ {X A B : Type 0} (join : A → B → A) (first : X → Bool) (ra : Reader X A) (rb : Reader X B) (shorter : (ts : List X) (x : B × List X) → rb ts ≡ Ok x → length x.1 < length ts) where
  -- the first part was read
  pub chain_starts : (ts : List X) (x : A × List X) → ra ts ≡ Ok x → go_on join x.0 (read_repeated first rb x.1) ≡ read_chain join first ra rb ts
  chain_starts ts x e = sym (rw e (grouped_parts join x.0 (read_repeated first rb x.1)))

  -- one part more was read
  pub chain_turn : (left : A) (ts : List X) (x : B × List X) (total : Result (A × List X) (Stop X)) → starts first ts ≡ true → rb ts ≡ Ok x
      → go_on join left (read_repeated first rb ts) ≡ total → go_on join (join left x.0) (read_repeated first rb x.1) ≡ total
  chain_turn left ts x total e d so_far =
      sym (part_first join left x.0 (read_repeated first rb x.1)) ∙ ap (go_on join left) (sym (repeated_turn rb first shorter ts x e d)) ∙ so_far

  -- no part is there
  pub chain_ends : (left : A) (ts : List X) (total : Result (A × List X) (Stop X)) → starts first ts ≡ false
      → go_on join left (read_repeated first rb ts) ≡ total → total ≡ Ok (left, ts)
  chain_ends left ts total e so_far = sym so_far ∙ ap (go_on join left) (repeated_ends rb first shorter ts e)

  -- a part begins and fails
  pub chain_fails : (left : A) (ts : List X) (total : Result (A × List X) (Stop X)) (s : Stop X) → starts first ts ≡ true → rb ts ≡ Err s
      → go_on join left (read_repeated first rb ts) ≡ total → total ≡ Err s
  chain_fails left ts total s e d so_far = sym so_far ∙ ap (go_on join left) (repeated_fails rb first shorter ts s e d)

  -- the first part fails
  pub chain_fails_first : (ts : List X) (s : Stop X) → ra ts ≡ Err s → read_chain join first ra rb ts ≡ Err s
  chain_fails_first ts s e = rw e refl
