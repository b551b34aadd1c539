-- A loop that reads an entry and then a sign each turn reads what separated reads.
use Rattle.std.proofs.Common.{◌≡◌, ◌<◌, inl, inr, Bool, true, false, cond, List, [], ◌∷◌, ◌++◌, length, Option, Some, None, Result, Ok, Err, refl, sym, ap, ◌∙◌, arith, map}
use Rattle.abel_grammar.proofs.Common.{entries_of, Stop, Syntax, Reader, ◌>>=◌, starts, behind, read_token, read_followed, ◌then_read◌, read_repeated, read_made, read_separated}
use Rattle.abel_grammar.proofs.Laws.{result_cases, chosen}
use Rattle.abel_grammar.proofs.RepeatedTurns.{repeated_turn, repeated_fails, repeated_ends}
use Rattle.abel_grammar.proofs.ListTurns.{with_front, front_first}

-- a sign is there, and the tokens after it
behind_is : {X : Type 0} (sign : X → Bool) (ts rest : List X) → behind sign ts ≡ Some rest → (x : X) × (ts ≡ x ∷ rest) × (sign x ≡ true)
behind_is sign [] rest e = absurd cc
behind_is sign (x ∷ ts) rest e = elim (chosen (sign x) (Some ts) None (Some rest) e) [ inl (h, d) ↦ (x, ap (λ (m : List _). x ∷ m) cc, h) | inr (h, d) ↦ absurd cc ]

pub behind_shorter : {X : Type 0} (sign : X → Bool) (ts rest : List X) → behind sign ts ≡ Some rest → length rest < length ts
behind_shorter sign ts rest e = let p = behind_is sign ts rest e in omega (arith, ap length p.1)

-- no sign is there
behind_none : {X : Type 0} (sign : X → Bool) (ts : List X) → behind sign ts ≡ None → starts sign ts ≡ false
behind_none sign [] e = refl
behind_none sign (x ∷ ts) e = elim (chosen (sign x) (Some ts) None None e) [ inl (h, d) ↦ absurd cc | inr (h, d) ↦ h ]

abbrev paired : {X S A : Type 0} → A → Result (List (S × A) × List X) (Stop X) → Result ((A × List (S × A)) × List X) (Stop X)
paired t read = read >>= λ y. Ok ((t, y.0), y.1)

-- an entry, and those that are still read after it
abbrev entries_with : {X S A : Type 0} → A → Result (List (S × A) × List X) (Stop X) → Result (List A × List X) (Stop X)
entries_with t read = read >>= λ y. Ok (entries_of (t, y.0), y.1)

-- an entry before those that are read
abbrev before : {X A : Type 0} → A → Result (List A × List X) (Stop X) → Result (List A × List X) (Stop X)
before t read = read >>= λ xs. Ok (t ∷ xs.0, xs.1)

joined : {X S A : Type 0} (t u : A) (s : S) (read : Result (List (S × A) × List X) (Stop X))
    → entries_with t (read >>= λ xs. Ok ((s, u) ∷ xs.0, xs.1)) ≡ before t (entries_with u read)
joined t u s (Ok x) = refl
joined t u s (Err e) = refl

paired_made : {X S A : Type 0} (t : A) (read : Result (List (S × A) × List X) (Stop X))
    → (paired t read >>= λ z. Ok (entries_of z.0, z.1)) ≡ entries_with t read
paired_made t (Ok x) = refl
paired_made t (Err e) = refl

module _ {X A : Type 0} (ra : Reader X A) (sign : X → Bool) (shorter : (ts : List X) (x : A × List X) → ra ts ≡ Ok x → length x.1 < length ts) where
  abbrev link : Reader X (X × A)
  link = read_token sign then_read ra

  -- the first entry, and what is made of it and the others
  first_read : (ts : List X) (x : A × List X) → ra ts ≡ Ok x → read_separated sign ra ts ≡ entries_with x.0 (read_repeated sign link x.1)
  first_read ts x e = rw e (paired_made x.0 (read_repeated sign link x.1))

  link_ok : (s : X) (ts : List X) (x : A × List X) → sign s ≡ true → ra ts ≡ Ok x → link (s ∷ ts) ≡ Ok ((s, x.0), x.1)
  link_ok s ts x h e = rw (h, e) refl

  link_err : (s : X) (ts : List X) (e : Stop X) → sign s ≡ true → ra ts ≡ Err e → link (s ∷ ts) ≡ Err e
  link_err s ts e h d = rw (h, d) refl

  link_shorter : (ts : List X) (x : (X × A) × List X) → link ts ≡ Ok x → length x.1 < length ts
  link_shorter [] x e = absurd cc
  link_shorter (s ∷ ts) x e =
      elim (chosen (sign s) (Ok (s, ts)) (Err (Syntax (s ∷ ts))) (read_token sign (s ∷ ts)) refl) [
        | inl (h, d) ↦
            elim (result_cases (ra ts)) [
              | inl (y, k) ↦ let is : Ok ((s, y.0), y.1) ≡ Ok x = sym (link_ok s ts y h k) ∙ e in let lt = shorter ts y k in (let same : ((s, y.0), y.1) ≡ x = cc in omega (arith, lt, ap (λ (p : (X × A) × List X). length p.1) same))
              | inr (q, k) ↦ absurd (let is : Err q ≡ Ok x = sym (link_err s ts q h k) ∙ e in let no : ⊥ = cc in no)
            ]
        | inr (h, d) ↦ absurd (let is : link (s ∷ ts) ≡ Err (Syntax (s ∷ ts)) = rw h refl in let no : ⊥ = cc in no)
      ]

  step : (ts : List X) (x : A × List X) (s : X) (rest : List X) → ra ts ≡ Ok x → x.1 ≡ s ∷ rest → sign s ≡ true
      → read_separated sign ra ts ≡ before x.0 (read_separated sign ra rest)
  step ts x s rest e d h =
      elim (result_cases (ra rest)) [
        | inl (z, k) ↦
            first_read ts x e
            ∙ ap (λ (m : List X). entries_with x.0 (read_repeated sign link m)) d
            ∙ ap (entries_with x.0) (repeated_turn link sign link_shorter (s ∷ rest) ((s, z.0), z.1) h (link_ok s rest z h k))
            ∙ joined x.0 z.0 s (read_repeated sign link z.1)
            ∙ ap (before x.0) (sym (first_read rest z k))
        | inr (q, k) ↦
            first_read ts x e
            ∙ ap (λ (m : List X). entries_with x.0 (read_repeated sign link m)) d
            ∙ ap (entries_with x.0) (repeated_fails link sign link_shorter (s ∷ rest) q h (link_err s rest q h k))
            ∙ ap (before x.0) (sym (fails_first rest q k))
      ]
    where
      fails_first : (ts : List X) (q : Stop X) → ra ts ≡ Err q → read_separated sign ra ts ≡ Err q
      fails_first ts q k = rw k refl

  -- an entry and a sign were read
  pub separated_turn : (front : List A) (ts : List X) (x : A × List X) (rest : List X) (total : Result (List A × List X) (Stop X)) → ra ts ≡ Ok x → behind sign x.1 ≡ Some rest
      → with_front front (read_separated sign ra ts) ≡ total → with_front (front ++ x.0 ∷ []) (read_separated sign ra rest) ≡ total
  separated_turn front ts x rest total e d so_far =
      let p = behind_is sign x.1 rest d in
      sym (front_first front x.0 (read_separated sign ra rest)) ∙ ap (with_front front) (sym (step ts x p.0 rest e p.1 p.2)) ∙ so_far

  pub separated_shorter : (ts : List X) (x : A × List X) (rest : List X) → ra ts ≡ Ok x → behind sign x.1 ≡ Some rest → length rest < length ts
  separated_shorter ts x rest e d = omega (arith, shorter ts x e, behind_shorter sign x.1 rest d)

  -- an entry was read, and no sign follows it
  pub separated_ends : (front : List A) (ts : List X) (x : A × List X) (total : Result (List A × List X) (Stop X)) → ra ts ≡ Ok x → behind sign x.1 ≡ None
      → with_front front (read_separated sign ra ts) ≡ total → total ≡ Ok (front ++ x.0 ∷ [], x.1)
  separated_ends front ts x total e d so_far =
      sym so_far ∙ ap (with_front front) (first_read ts x e ∙ ap (entries_with x.0) (repeated_ends link sign link_shorter x.1 (behind_none sign x.1 d)))

  -- no entry is there
  pub separated_fails : (front : List A) (ts : List X) (total : Result (List A × List X) (Stop X)) (s : Stop X) → ra ts ≡ Err s → with_front front (read_separated sign ra ts) ≡ total → total ≡ Err s
  separated_fails front ts total s e so_far = sym so_far ∙ rw e refl
