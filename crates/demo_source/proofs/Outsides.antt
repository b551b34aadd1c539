-- The outside levels of inputs, set one after another.
use Rattle.std.proofs.Common.{◌≡◌, ℕ, suc, ◌+◌, ◌-◌, ◌<◌, ◌≤◌, Bool, false, List, [], ◌∷◌, ◌++◌, length, take, set, get_or, replicate, refl, ap, sym, ◌∙◌, arith, length-append, append_assoc, length-take-le}
use Rattle.demo_source.proofs.Common.{bits, outside}
use Rattle.std.proofs.lemmas.List.{take_more, set_at}

-- no input has a level yet
pub no_inputs : (clock : Bool) → set (bits 32 0) 1 clock ≡ outside clock []
unfolding bits outside
no_inputs clock = refl

-- the next input gets its level
next_input : (clock : Bool) (xs : List Bool) (x : Bool) → length xs < 30 → set (outside clock xs) (suc (suc (length xs))) x ≡ outside clock (xs ++ x ∷ [])
unfolding outside
next_input clock xs x few =
    let room : 30 - length xs ≡ suc (29 - length xs) = omega arith in
    let less : 30 - length (xs ++ x ∷ []) ≡ 29 - length xs = omega (arith, length-append xs (x ∷ [])) in
    rw (room, less) (ap (λ ys. false ∷ clock ∷ ys)
    (set_at xs false (replicate (29 - length xs) false) x (length xs) refl ∙ sym (append_assoc xs (x ∷ []) (replicate (29 - length xs) false))))

pub one_input_more : (clock : Bool) (inputs : List Bool) (i : ℕ) → i < length inputs → length inputs ≤ 30 → set (outside clock (take i inputs)) (2 + i) (get_or inputs i false) ≡ outside clock (take (i + 1) inputs)
one_input_more clock inputs i within few =
    let long : length (take i inputs) ≡ i = length-take-le i inputs (omega arith) in
    let place : suc (suc (length (take i inputs))) ≡ 2 + i = omega (arith, long) in
    rw (take_more inputs i false within) (rw place at (next_input clock (take i inputs) (get_or inputs i false) (omega (arith, long))))
