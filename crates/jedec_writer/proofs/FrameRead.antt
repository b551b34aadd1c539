-- The text between the start and end bytes of a file is found, with its sum.
use Rattle.std.proofs.Common.{◌≡◌, ℕ, ◌+◌, ◌%◌, ◌^◌, ◌<◌, true, List, [], ◌∷◌, ◌++◌, length, take, drop, Ok, refl, ap, ◌∙◌, arith, append_assoc, length-append, ◌==◌, sum}
use Rattle.jedec_writer.proofs.Common.{list_all, position_or_len, and_parts, not-true, lt-ltb, eq-eqb, take_at, drop_at, STX, ETX, four_hex, start_of, length_of, sum_at, check_sum, frame_of, with_sum}
use Rattle.jedec_writer.proofs.Numerals.{four_hex_value-four_hex}
use Rattle.jedec_writer.proofs.SaidBack.{is_inner}

-- the first end byte
length_before : (inner rest : List ℕ) → list_all is_inner inner ≡ true → position_or_len (λ b. b == ETX) (inner ++ ETX ∷ rest) ≡ length inner
length_before [] rest test = refl
length_before (b ∷ bs) rest test =
    let parts = and_parts (is_inner b) (list_all is_inner bs) test in
    rw (not-true (b == 3) parts.0, length_before bs rest parts.1) (omega arith)

length_found : (inner rest : List ℕ) → list_all is_inner inner ≡ true → length_of (inner ++ ETX ∷ rest) ≡ Ok (length inner)
unfolding length_of
length_found inner rest test =
    rw (length_before inner rest test, lt-ltb (length inner) (length (inner ++ ETX ∷ rest)) (omega (arith, length-append inner (ETX ∷ rest)))) refl

start_found : (rest : List ℕ) → start_of (STX ∷ rest) ≡ Ok 0
unfolding start_of
start_found rest = rw (lt-ltb 0 (length (STX ∷ rest)) (omega arith)) refl

sum_found : (n : ℕ) → n < 2 ^ 16 → sum_at (four_hex n) ≡ Ok n
unfolding sum_at
sum_found n fits = rw (four_hex_value-four_hex n fits) refl

sum_checked : (bytes : List ℕ) → check_sum (sum bytes % 2 ^ 16) bytes ≡ Ok (sum bytes % 2 ^ 16)
unfolding check_sum
sum_checked bytes = rw (eq-eqb (sum bytes % 2 ^ 16) (sum bytes % 2 ^ 16) refl) refl

-- a file of which each step is known
frame_by_steps : (bytes : List ℕ) (start len read found : ℕ) → start_of bytes ≡ Ok start → length_of (drop (start + 1) bytes) ≡ Ok len → sum_at (drop (start + len + 2) bytes) ≡ Ok read
    → check_sum read (take (len + 2) (drop start bytes)) ≡ Ok found → frame_of bytes ≡ Ok (record { at = start + 1; text = take len (drop (start + 1) bytes) })
unfolding frame_of
frame_by_steps bytes start len read found starts ends sums checks = rw (starts, ends, sums, checks) refl

pub frame_read : (inner : List ℕ) → list_all is_inner inner ≡ true → frame_of (with_sum (STX ∷ (inner ++ ETX ∷ []))) ≡ Ok (record { at = 1; text = inner })
frame_read inner test =
    let body = STX ∷ (inner ++ ETX ∷ []) in
    let total = sum body % 2 ^ 16 in
    let behind : (inner ++ ETX ∷ []) ++ four_hex total ≡ inner ++ ETX ∷ four_hex total = append_assoc inner (ETX ∷ []) (four_hex total) in
    let long : length body ≡ length inner + 2 = omega (arith, length-append inner (ETX ∷ [])) in
    let rest : drop (0 + length inner + 2) (body ++ four_hex total) ≡ four_hex total = drop_at body (four_hex total) (0 + length inner + 2) (omega arith) in
    let front : take (length inner + 2) (body ++ four_hex total) ≡ body = take_at body (four_hex total) (length inner + 2) (omega arith) in
    let text : take (length inner) ((inner ++ ETX ∷ []) ++ four_hex total) ≡ inner = ap (take (length inner)) behind ∙ take_at inner (ETX ∷ four_hex total) (length inner) refl in
    frame_by_steps (with_sum body) 0 (length inner) total total (start_found ((inner ++ ETX ∷ []) ++ four_hex total))
    (ap length_of behind ∙ length_found inner (four_hex total) test)
    (ap sum_at rest ∙ sum_found total (omega arith))
    (ap (check_sum total) front ∙ sum_checked body)
    ∙ ap (λ (bs : List ℕ). Ok (record { at = 1; text = bs })) text
