-- The text of a stack, and one piece more or less.
use Rattle.std.proofs.Common.{◌≡◌, ◌-◌, ◌+◌, ◌<◌, ◌≤◌, ℕ, zero, suc, List, [], ◌∷◌, ◌++◌, length, drop, get_or, refl, sym, ap, ◌∙◌, append_assoc, append-nil, add-one, arith, length-drop}
use Rattle.text_pieces.proofs.Common.{rest_of, stacked}

pub stacked-append : (ps qs : List (List ℕ)) → stacked (ps ++ qs) ≡ stacked qs ++ stacked ps
stacked-append [] qs = sym (append-nil (stacked qs))
stacked-append (p ∷ ps) qs = ap (λ (w : List ℕ). w ++ p) (stacked-append ps qs) ∙ append_assoc (stacked qs) (stacked ps) p

pub stacked-push : (ps : List (List ℕ)) (p : List ℕ) → stacked (ps ++ p ∷ []) ≡ p ++ stacked ps
stacked-push ps p = stacked-append ps (p ∷ [])

-- ---- one byte of a text passed

pub drop_next : (w : List ℕ) (p x : ℕ) (xs : List ℕ) → drop p w ≡ x ∷ xs → drop (suc p) w ≡ xs
drop_next [] zero x xs e = absurd (cc)
drop_next [] (suc p) x xs e = absurd (cc)
drop_next (y ∷ w) zero x xs e = ap rest_of e
drop_next (y ∷ w) (suc p) x xs e = drop_next w p x xs e

-- the first byte of a piece that isn't empty, and the others
pub piece_split : (here : List ℕ) → 0 < length here → here ≡ get_or here 0 0 ∷ drop 1 here
piece_split [] h = absurd (omega arith)
piece_split (x ∷ xs) h = refl

pub record Passes (here whole : List ℕ) (passed : ℕ) : Type 0 where
  pub byte : drop passed whole ≡ get_or here 0 0 ∷ drop (passed + 1) whole
  pub within : passed + 1 ≤ length whole

pub passes : (here stack whole : List ℕ) (passed : ℕ) → 0 < length here → here ++ stack ≡ drop passed whole → Passes here whole passed
passes here stack whole passed h e =
    let more : List ℕ = drop 1 here ++ stack in
    let at : drop passed whole ≡ get_or here 0 0 ∷ more = sym e ∙ ap (λ (w : List ℕ). w ++ stack) (piece_split here h) in
    let next : drop (passed + 1) whole ≡ more = ap (λ (n : ℕ). drop n whole) (add-one passed) ∙ drop_next whole passed (get_or here 0 0) more at in
    record { byte = at ∙ ap (λ (w : List ℕ). get_or here 0 0 ∷ w) (sym next); within = omega (arith, ap length at, length-drop passed whole) }

pub emptied : (here s r : List ℕ) → length here ≡ 0 → here ++ s ≡ r → s ≡ r
emptied [] s r h e = e
emptied (x ∷ xs) s r h e = absurd (omega arith)

-- the first two bytes of a text
pub two_of : (here stack rest : List ℕ) → 1 < length here → here ++ stack ≡ rest → (a : ℕ) × (bs : List ℕ) × (rest ≡ a ∷ get_or here 1 0 ∷ bs)
two_of [] stack rest h e = absurd (omega arith)
two_of (x ∷ []) stack rest h e = absurd (omega arith)
two_of (x ∷ y ∷ here) stack rest h e = (x, here ++ stack, sym e)

pub one_then : (here stack next more rest : List ℕ) → length here ≡ 1 → here ++ stack ≡ rest → next ++ more ≡ stack → 0 < length next → (a : ℕ) × (bs : List ℕ) × (rest ≡ a ∷ get_or next 0 0 ∷ bs)
one_then [] stack next more rest h e f s = absurd (omega arith)
one_then (x ∷ y ∷ here) stack next more rest h e f s = absurd (omega arith)
one_then (x ∷ []) stack [] more rest h e f s = absurd (omega arith)
one_then (x ∷ []) stack (y ∷ next) more rest h e f s = (x, next ++ more, sym e ∙ ap (λ (w : List ℕ). x ∷ w) (sym f))

-- after a piece of one byte
pub one_behind : (here stack : List ℕ) → length here ≡ 1 → drop 1 (here ++ stack) ≡ stack
one_behind [] stack h = absurd (omega arith)
one_behind (x ∷ []) stack h = refl
one_behind (x ∷ y ∷ here) stack h = absurd (omega arith)

pub drop_fits : (n m : ℕ) (w : List ℕ) → length w < m → length (drop n w) < m
drop_fits n m w h = omega (arith, length-drop n w)

pub drop_length : (n : ℕ) (w : List ℕ) → length w - n ≡ length (drop n w)
drop_length n w = sym (length-drop n w)
