-- The first place that passes a test, as a loop from the front finds it.
use Rattle.std.proofs.Common.{◌≡◌, ℕ, ◌<◌, Bool, true, false, List, length, get_or, Some, None, refl, arith, position}
use Rattle.jedec_reader.proofs.Common.{position_or_len, lt-ltb, le-ltb, position_or_len_is}

pub position_found : {X : Type 0} (p : X → Bool) (xs : List X) (i : ℕ) (d : X) → i < length xs → p (get_or xs i d) ≡ true
    → ((k : ℕ) → k < i → p (get_or xs k d) ≡ false) → position p xs ≡ Some i
position_found p xs i d low here before =
    let first : position_or_len p xs ≡ i = position_or_len_is p xs i d (omega arith) before (λ _. here) in
    rw (first, lt-ltb i (length xs) low) refl

pub position_none : {X : Type 0} (p : X → Bool) (xs : List X) (d : X) → ((k : ℕ) → k < length xs → p (get_or xs k d) ≡ false) → position p xs ≡ None
position_none p xs d all =
    let first : position_or_len p xs ≡ length xs = position_or_len_is p xs (length xs) d (omega arith) all (λ low. absurd (omega arith)) in
    rw (first, le-ltb (length xs) (length xs) (omega arith)) refl
