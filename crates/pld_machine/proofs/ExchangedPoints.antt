-- Points whose Qs are complemented at some cells.
use Rattle.std.proofs.Common.{◌≡◌, ℕ, zero, suc, ◌+◌, ◌<◌, Bool, true, false, List, [], ◌∷◌, length, refl, sym, ap, ap₂, ◌∙◌, arith, inl, inr}
use Rattle.pld_machine.proofs.Common.{cases_Bool, is_on, IsPoint, Levels, exchanged_at, exchanged_from, exchanged_qs, in_sense}

pub complement_back : (b q : Bool) → in_sense b (in_sense b q) ≡ q
complement_back true true = refl
complement_back true false = refl
complement_back false q = refl

pub length_from : (x : ℕ → Bool) (c : ℕ) (qs : List Bool) → length (exchanged_from x c qs) ≡ length qs
length_from x c [] = refl
length_from x c (q ∷ qs) = ap suc (length_from x (suc c) qs)

q_from : (x : ℕ → Bool) (c k d : ℕ) (qs : List Bool) → d ≡ c + k → k < length qs → is_on (exchanged_from x c qs) k ≡ in_sense (x d) (is_on qs k)
q_from x c k d [] at low = absurd (omega arith)
q_from x c zero d (q ∷ qs) at low = let same : d ≡ c = omega (arith, at) in rw same refl
q_from x c (suc k) d (q ∷ qs) at low = q_from x (suc c) k d qs (omega (arith, at)) (omega (arith, low))

-- a Q of the exchanged list
pub q_exchanged : (x : ℕ → Bool) (qs : List Bool) (c : ℕ) → c < length qs → is_on (exchanged_qs x qs) c ≡ in_sense (x c) (is_on qs c)
q_exchanged x qs c low = q_from x 0 c c qs (omega arith) low

back_from : (x : ℕ → Bool) (c : ℕ) (qs : List Bool) → exchanged_from x c (exchanged_from x c qs) ≡ qs
back_from x c [] = refl
back_from x c (q ∷ qs) = ap₂ (λ p ps. p ∷ ps) (complement_back (x c) q) (back_from x (suc c) qs)

-- exchanging twice is nothing
pub qs_back : (x : ℕ → Bool) (qs : List Bool) → exchanged_qs x (exchanged_qs x qs) ≡ qs
qs_back x qs = back_from x 0 qs

pub at_back : (x : ℕ → Bool) (at : Levels) → exchanged_at x (exchanged_at x at) ≡ at
at_back x at = ap (λ qs. let y : Levels = record { pins = at.pins; q = qs; nodes = at.nodes } in y) (qs_back x at.q)

pub point_exchanged : (x : ℕ → Bool) (at : Levels) → IsPoint at → IsPoint (exchanged_at x at)
point_exchanged x at is = record { pins = is.pins; q = length_from x 0 at.q ∙ is.q; nodes = is.nodes }

pub point_back : (x : ℕ → Bool) (at : Levels) → IsPoint (exchanged_at x at) → IsPoint at
point_back x at is = record { pins = is.pins; q = sym (length_from x 0 at.q) ∙ is.q; nodes = is.nodes }

-- a Q of the exchanged list, past its end too, if no cell is exchanged
pub q_any : (x : ℕ → Bool) (c k d : ℕ) (qs : List Bool) → d ≡ c + k → (x d ≡ true → k < length qs) → is_on (exchanged_from x c qs) k ≡ in_sense (x d) (is_on qs k)
q_any x c k d [] at low =
    elim (cases_Bool (x d)) [
      | inl on ↦ let l = low on in absurd (omega (arith, l))
      | inr off ↦ rw off refl
    ]
q_any x c zero d (q ∷ qs) at low = let same : d ≡ c = omega (arith, at) in rw same refl
q_any x c (suc k) d (q ∷ qs) at low = q_any x (suc c) k d qs (omega (arith, at)) (λ on. let l = low on in omega (arith, l))
