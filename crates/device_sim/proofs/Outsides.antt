-- The outside levels of a vector, pin by pin.
use Rattle.std.proofs.Common.{◌≡◌, ℕ, suc, ◌+◌, ◌-◌, ◌<◌, ◌≤◌, Bool, false, List, [], ◌∷◌, ◌++◌, length, map, take, set, get_or, replicate, refl, ap, sym, ◌∙◌, arith, add-one, length-append, append_assoc, length-take-le}
use Rattle.device_sim.proofs.Common.{take_more, map-append, set_at, length-map, length-replicate, bits, IsWide, at_pins}

-- no pin has a level yet
pub at_pins_none : (level : ℕ → Bool) → bits 32 0 ≡ at_pins level []
unfolding bits at_pins
at_pins_none level = refl

-- a list that is filled in order, with room for r + 1 more, gets its next entry
filled_more : (level : ℕ → Bool) (xs : List ℕ) (x r : ℕ) → set (map level xs ++ replicate (suc r) false) (length xs) (level x) ≡ map level (xs ++ x ∷ []) ++ replicate r false
filled_more level xs x r =
    set_at (map level xs) false (replicate r false) (level x) (length xs) (length-map xs level)
    ∙ (sym (append_assoc (map level xs) (level x ∷ []) (replicate r false)) ∙ ap (λ ys. ys ++ replicate r false) (sym (map-append level xs (x ∷ []))))

-- the pin after the first ones gets its level
next_pin : (level : ℕ → Bool) (xs : List ℕ) (x : ℕ) → length xs < 31 → set (at_pins level xs) (suc (length xs)) (level x) ≡ at_pins level (xs ++ x ∷ [])
unfolding at_pins
next_pin level xs x few =
    let room : 31 - length xs ≡ suc (30 - length xs) = omega arith in
    let less : 31 - length (xs ++ x ∷ []) ≡ 30 - length xs = omega (arith, length-append xs (x ∷ [])) in
    rw (room, less) (ap (λ ys. false ∷ ys) (filled_more level xs x (30 - length xs)))

pub at_pins_more : (level : ℕ → Bool) (chars : List ℕ) (i : ℕ) → i < length chars → length chars ≤ 31 → set (at_pins level (take i chars)) (i + 1) (level (get_or chars i 0)) ≡ at_pins level (take (i + 1) chars)
at_pins_more level chars i within few =
    let long : length (take i chars) ≡ i = length-take-le i chars (omega arith) in
    let here : set (at_pins level (take i chars)) (suc (length (take i chars))) (level (get_or chars i 0)) ≡ at_pins level (take i chars ++ get_or chars i 0 ∷ []) = next_pin level (take i chars) (get_or chars i 0) (omega arith) in
    rw (take_more chars i 0 within, add-one i) (rw long at here)

-- a pin with level 0 changes nothing
filled_off : (level : ℕ → Bool) (xs : List ℕ) (x r : ℕ) → level x ≡ false → map level xs ++ replicate (suc r) false ≡ map level (xs ++ x ∷ []) ++ replicate r false
filled_off level xs x r off =
    sym (ap (λ ys. ys ++ replicate r false) (map-append level xs (x ∷ []))
    ∙ (append_assoc (map level xs) (level x ∷ []) (replicate r false) ∙ ap (λ b. map level xs ++ b ∷ replicate r false) off))

next_off : (level : ℕ → Bool) (xs : List ℕ) (x : ℕ) → length xs < 31 → level x ≡ false → at_pins level xs ≡ at_pins level (xs ++ x ∷ [])
unfolding at_pins
next_off level xs x few off =
    let room : 31 - length xs ≡ suc (30 - length xs) = omega arith in
    let less : 31 - length (xs ++ x ∷ []) ≡ 30 - length xs = omega (arith, length-append xs (x ∷ [])) in
    rw (room, less) (ap (λ ys. false ∷ ys) (filled_off level xs x (30 - length xs) off))

pub at_pins_off : (level : ℕ → Bool) (chars : List ℕ) (i : ℕ) → i < length chars → length chars ≤ 31 → level (get_or chars i 0) ≡ false → at_pins level (take i chars) ≡ at_pins level (take (i + 1) chars)
at_pins_off level chars i within few off =
    let long : length (take i chars) ≡ i = length-take-le i chars (omega arith) in
    rw (take_more chars i 0 within) (next_off level (take i chars) (get_or chars i 0) (omega (arith, long)) off)

-- 32 places have a level
pub at_pins_wide : (level : ℕ → Bool) (chars : List ℕ) → length chars ≤ 31 → IsWide (at_pins level chars)
unfolding at_pins
at_pins_wide level chars few = omega (arith, length-append (map level chars) (replicate (31 - length chars) false), length-map chars level, length-replicate (31 - length chars) false)
