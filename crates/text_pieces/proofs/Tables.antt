-- What a table says of its places, when one is asked and when one is set.
use Rattle.std.proofs.Common.{◌≡◌, ℕ, Bool, zero, suc, ◌+◌, List, [], ◌∷◌, get_or, set, replicate, ◌-◌, take, drop, refl, sym, ap, ◌∙◌, arith}
use Rattle.text_pieces.proofs.Common.{count_by, FreeOf, Tells}

-- a fact of a number is one of an equal number
moved : (fact : ℕ → Type 0) (a b : ℕ) → a ≡ b → fact a → fact b
moved fact a b e h = rw (sym e) h

tells_at : (fact : ℕ → ℕ → Type 0) (from : ℕ) (es : List ℕ) (k : ℕ) → Tells fact from es → (get_or es k 0 ≡ 0 → ⊥) → fact (from + k) (get_or es k 0)
tells_at fact from [] zero t n = absurd (n refl)
tells_at fact from [] (suc k) t n = absurd (n refl)
tells_at fact from (e ∷ es) zero t n = moved (λ p. fact p e) from (from + 0) (omega arith) (t.0 n)
tells_at fact from (e ∷ es) (suc k) t n = moved (λ p. fact p (get_or es k 0)) (from + 1 + k) (from + suc k) (omega arith) (tells_at fact (from + 1) es k t.1 n)

pub tells_first : (fact : ℕ → ℕ → Type 0) (es : List ℕ) (k : ℕ) → Tells fact 0 es → (get_or es k 0 ≡ 0 → ⊥) → fact k (get_or es k 0)
tells_first fact es k t n = moved (λ p. fact p (get_or es k 0)) (0 + k) k (omega arith) (tells_at fact 0 es k t n)

-- what an entry says that was looked up
pub asked : (fact : ℕ → ℕ → Type 0) (es table : List ℕ) (k e : ℕ) → Tells fact 0 es → table ≡ es → e ≡ get_or table k 0 → (e ≡ 0 → ⊥) → fact k e
asked fact es table k e t s r n =
    let q : e ≡ get_or es k 0 = r ∙ ap (λ (w : List ℕ). get_or w k 0) s in
    moved (fact k) (get_or es k 0) e (sym q) (tells_first fact es k t (λ z. n (q ∙ z)))

-- the same of stops, where 0 says something too
pub asked_stop : (is : ℕ → Bool) (text es table : List ℕ) (k e : ℕ) → Tells (FreeOf is text) 0 es → table ≡ es → e ≡ get_or table k 0 → FreeOf is text k e
asked_stop is text es table k zero t s r = let z : 0 - k ≡ 0 = omega arith in (ap (λ (n : ℕ). count_by is (take n (drop k text))) z, omega arith)
asked_stop is text es table k (suc e) t s r = asked (FreeOf is text) es table k (suc e) t s r (λ z. omega (arith, z))

tells_set_at : (fact : ℕ → ℕ → Type 0) (from : ℕ) (es : List ℕ) (k v : ℕ) → Tells fact from es → fact (from + k) v → Tells fact from (set es k v)
tells_set_at fact from [] zero v t h = t
tells_set_at fact from [] (suc k) v t h = t
tells_set_at fact from (e ∷ es) zero v t h = (λ n. moved (λ p. fact p v) (from + 0) from (omega arith) h, t.1)
tells_set_at fact from (e ∷ es) (suc k) v t h = (t.0, tells_set_at fact (from + 1) es k v t.1 (moved (λ p. fact p v) (from + suc k) (from + 1 + k) (omega arith) h))

pub tells_set : (fact : ℕ → ℕ → Type 0) (es : List ℕ) (k v : ℕ) → Tells fact 0 es → fact k v → Tells fact 0 (set es k v)
tells_set fact es k v t h = tells_set_at fact 0 es k v t (moved (λ p. fact p v) k (0 + k) (omega arith) h)

tells_none_at : (fact : ℕ → ℕ → Type 0) (from n : ℕ) → Tells fact from (replicate n 0)
tells_none_at fact from zero = tt
tells_none_at fact from (suc n) = (λ z. absurd (z refl), tells_none_at fact (from + 1) n)

-- a table of nothing but 0
pub tells_none : (fact : ℕ → ℕ → Type 0) (n : ℕ) → Tells fact 0 (replicate n 0)
tells_none fact n = tells_none_at fact 0 n
