-- An expansion ends once: after it every turn changes nothing, so a text has one expanded text.
use Rattle.std.proofs.Common.{◌≡◌, ◌+◌, ◌-◌, ◌≤◌, ℕ, zero, suc, List, [], Ok, Err, refl, sym, ap, ◌∙◌, subst, arith, append-nil, ◌⊎◌, inl, inr}
use Rattle.module_reader.proofs.Common.{Tables, Move, Done, move, Config, moved, turned, after, IsExpanded}
use Rattle.abel_lexer.specs.Lengths.{longest_at, longest_word}

-- nothing is left, and this is done
pub record Ended (c : Config) (w : List ℕ) : Type 0 where
  pub rest : c.rest ≡ []
  pub done : c.done ≡ w

-- if nothing is left, a move does nothing
no_move : (t : Tables) → move t [] ≡ Done t [] []
unfolding longest_at longest_word
no_move t = refl

-- so a turn does nothing
turned_still : (c : Config) (w : List ℕ) → Ended c w → Ended (turned c) w
turned_still c w e =
    subst (λ (r : List ℕ). Ended (elim (moved c (move c.tables r)) [ Ok d ↦ d | Err f ↦ c ]) w) (sym e.rest)
    (subst (λ (m : Move). Ended (elim (moved c m) [ Ok d ↦ d | Err f ↦ c ]) w) (sym (no_move c.tables))
    (record { rest = refl; done = append-nil c.done ∙ e.done }))

-- and no number of turns does anything
pub still : (text w : List ℕ) (n k : ℕ) → Ended (after n text) w → Ended (after (k + n) text) w
still text w n zero e =
    let none : n ≡ 0 + n = omega arith in
    subst (λ (i : ℕ). Ended (after i text) w) none e
still text w n (suc k) e =
    let one_more : suc (k + n) ≡ suc k + n = omega arith in
    subst (λ (i : ℕ). Ended (after i text) w) one_more (turned_still (after (k + n) text) w (still text w n k e))

-- by the later of two numbers of turns
later : (text w v : List ℕ) (n m : ℕ) → n ≤ m → Ended (after n text) w → Ended (after m text) v → v ≡ w
later text w v n m below e f =
    let k : m - n + n ≡ m = omega arith in
    sym f.done ∙ ap (λ (i : ℕ). (after i text).done) (sym k) ∙ (still text w n (m - n) e).done

at_most : (n m : ℕ) → (n ≤ m) ⊎ (m ≤ n)
at_most zero m = inl (omega arith)
at_most (suc n) zero = inr (omega arith)
at_most (suc n) (suc m) = more (at_most n m)
  where
    more : (n ≤ m) ⊎ (m ≤ n) → (suc n ≤ suc m) ⊎ (suc m ≤ suc n)
    more (inl l) = inl (omega arith)
    more (inr l) = inr (omega arith)

-- a text expands to one text
pub expanded_once : (text w v : List ℕ) → IsExpanded text w → IsExpanded text v → v ≡ w
expanded_once text w v e f = by (at_most e.0 f.0)
  where
    first : Ended (after e.0 text) w
    first = record { rest = e.1; done = e.2 }

    other : Ended (after f.0 text) v
    other = record { rest = f.1; done = f.2 }

    by : (e.0 ≤ f.0) ⊎ (f.0 ≤ e.0) → v ≡ w
    by (inl below) = later text w v e.0 f.0 below first other
    by (inr below) = sym (later text v w f.0 e.0 below other first)
