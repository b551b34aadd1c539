-- Two numbers of 128 bits as one set of 256 places.
use Rattle.std.proofs.Common.{◌≡◌, ℕ, ◌+◌, ◌-◌, ◌<◌, ◌≤◌, ◌^◌, Bool, true, false, ◌&&◌, ◌==◌, bit_and, ◌++◌, length, set, refl, ap, sym, ◌∙◌, subst, arith, inl, inr, ne_eqb, get_or-set_same, get_or-set_other}
use Rattle.pld_order.proofs.Common.{cases_Bool, cases_eq, cases_lt, true≢false, and_parts, and_from, eqb-true, eq-eqb, length-append, get_or_append_left, get_or-append_right, set-append_left, set-append_right, get_or_past, bit_at-lt, same_from_bits_below, bits, is_on, length-bits, is_on-bits, is_on-and, is_on-zero, members, IsWith, IsWithin, AreApart}
use Rattle.std.specs.Int.{bit_at}

pub on_low : (low high v : ℕ) → v < 128 → is_on (members low high) v ≡ is_on (bits 128 low) v
on_low low high v below = get_or_append_left (bits 128 low) (bits 128 high) false v (subst (λ n. v < n) (sym (length-bits 128 low)) below)

pub on_high : (low high v : ℕ) → 128 ≤ v → is_on (members low high) v ≡ is_on (bits 128 high) (v - 128)
on_high low high v above = get_or-append_right (bits 128 low) (bits 128 high) 128 v false (length-bits 128 low) above

-- there are no places past 256
pub on_past : (low high v : ℕ) → 256 ≤ v → is_on (members low high) v ≡ false
on_past low high v past =
    let le : length (bits 128 high) ≤ v - 128 = subst (λ n. n ≤ v - 128) (sym (length-bits 128 high)) (omega arith) in
    on_high low high v (omega (arith, past)) ∙ get_or_past (bits 128 high) (v - 128) false le

pub set_low : (low high v : ℕ) (on : Bool) → v < 128 → set (members low high) v on ≡ set (bits 128 low) v on ++ bits 128 high
set_low low high v on below = set-append_left (bits 128 low) (bits 128 high) v on (subst (λ n. v < n) (sym (length-bits 128 low)) below)

pub set_high : (low high v : ℕ) (on : Bool) → 128 ≤ v → set (members low high) v on ≡ bits 128 low ++ set (bits 128 high) (v - 128) on
set_high low high v on above = set-append_right (bits 128 low) (bits 128 high) 128 v on (length-bits 128 low) above

-- the set with one place more
pub set_on : (low high v : ℕ) → v < 256 → IsWith (members low high) v (set (members low high) v true)
set_on low high v within w =
    elim (cases_eq w v) [
      | inl here ↦ rw (here, eq-eqb v v refl) (get_or-set_same (members low high) v true false (subst (λ n. v < n) (sym long) within))
      | inr other ↦ rw (ne_eqb w v other) (get_or-set_other (members low high) v w true false other)
    ]
  where
    long : length (members low high) ≡ 256
    long = length-append (bits 128 low) (bits 128 high) ∙ (ap (λ n. n + length (bits 128 high)) (length-bits 128 low) ∙ ap (λ n. 128 + n) (length-bits 128 high))

-- ---- one word

-- numbers with the same levels are equal
same_number : (a b : ℕ) → a < 2 ^ 128 → b < 2 ^ 128 → ((k : ℕ) → k < 128 → is_on (bits 128 a) k ≡ is_on (bits 128 b) k) → a ≡ b
same_number a b a_fits b_fits same = same_from_bits_below 128 a b a_fits b_fits (λ k low. one_bit (bit_at a k) (bit_at b k) (bit_at-lt a k) (bit_at-lt b k) (sym (is_on-bits 128 a k low) ∙ (same k low ∙ is_on-bits 128 b k low)))
  where
    one_bit : (x y : ℕ) → x < 2 → y < 2 → (x == 1) ≡ (y == 1) → x ≡ y
    one_bit x y x_low y_low tests =
        elim (cases_Bool (x == 1)) [
          | inl on ↦ eqb-true x 1 on ∙ sym (eqb-true y 1 (sym tests ∙ on))
          | inr off ↦ zero_of x x_low off ∙ sym (zero_of y y_low (sym tests ∙ off))
        ]
      where
        zero_of : (z : ℕ) → z < 2 → (z == 1) ≡ false → z ≡ 0
        zero_of z low none =
            elim (cases_lt z 1) [
              | inl less ↦ omega (arith, less)
              | inr more ↦ absurd (true≢false (sym (eq-eqb z 1 (omega (arith, low, more))) ∙ none))
            ]

both : (a b : Bool) → (a ≡ true → b ≡ true) → (a && b) ≡ a
both true b next = next refl
both false b next = refl

never : (a b : Bool) → (a ≡ true → b ≡ true → ⊥) → (a && b) ≡ false
never true true apart = absurd (apart refl refl)
never true false apart = refl
never false b apart = refl

-- each bit of the first is one of the second
abbrev WordWithin : ℕ → ℕ → Type 0
WordWithin a b = (k : ℕ) → k < 128 → is_on (bits 128 a) k ≡ true → is_on (bits 128 b) k ≡ true

-- no bit is one of both
abbrev WordsApart : ℕ → ℕ → Type 0
WordsApart a b = (k : ℕ) → k < 128 → is_on (bits 128 a) k ≡ true → is_on (bits 128 b) k ≡ true → ⊥

word_within : (a b : ℕ) → a < 2 ^ 128 → bit_and a b < 2 ^ 128 → WordWithin a b → bit_and a b ≡ a
word_within a b a_fits fits within = same_number (bit_and a b) a fits a_fits (λ k low. is_on-and 128 a b k low ∙ both (is_on (bits 128 a) k) (is_on (bits 128 b) k) (within k low))

within_word : (a b : ℕ) → bit_and a b ≡ a → WordWithin a b
within_word a b same k low on = (and_parts (is_on (bits 128 a) k) (is_on (bits 128 b) k) (sym (is_on-and 128 a b k low) ∙ (ap (λ n. is_on (bits 128 n) k) same ∙ on))).1

words_apart : (a b : ℕ) → bit_and a b < 2 ^ 128 → WordsApart a b → bit_and a b ≡ 0
words_apart a b fits apart = same_number (bit_and a b) 0 fits (omega arith) (λ k low. is_on-and 128 a b k low ∙ (never (is_on (bits 128 a) k) (is_on (bits 128 b) k) (apart k low) ∙ sym (is_on-zero 128 k low)))

apart_words : (a b : ℕ) → bit_and a b ≡ 0 → WordsApart a b
apart_words a b none k low first second =
    true≢false (sym (and_from (is_on (bits 128 a) k) (is_on (bits 128 b) k) first second) ∙ (sym (is_on-and 128 a b k low) ∙ (ap (λ n. is_on (bits 128 n) k) none ∙ is_on-zero 128 k low)))

-- ---- two words

module _ (a_low a_high b_low b_high : ℕ) where
  -- what holds at each place of both words holds at each place
  places : (P : Bool → Bool → Type 0)
      → ((k : ℕ) → k < 128 → P (is_on (bits 128 a_low) k) (is_on (bits 128 b_low) k))
      → ((k : ℕ) → k < 128 → P (is_on (bits 128 a_high) k) (is_on (bits 128 b_high) k))
      → (v : ℕ) → v < 256 → P (is_on (members a_low a_high) v) (is_on (members b_low b_high) v)
  places P first second v below =
      elim (cases_lt v 128) [
        | inl low ↦ rw (on_low a_low a_high v low, on_low b_low b_high v low) (first v low)
        | inr more ↦ rw (on_high a_low a_high v more, on_high b_low b_high v more) (second (v - 128) (omega (arith, more, below)))
      ]

  high_place : (x y k : ℕ) → k < 128 → is_on (members x y) (128 + k) ≡ is_on (bits 128 y) k
  high_place x y k low = on_high x y (128 + k) (omega arith) ∙ ap (is_on (bits 128 y)) (omega arith)

  pub within : bit_and a_low b_low ≡ a_low → bit_and a_high b_high ≡ a_high → IsWithin (members a_low a_high) (members b_low b_high)
  within low high = places (λ x y. x ≡ true → y ≡ true) (within_word a_low b_low low) (within_word a_high b_high high)

  pub low_within : a_low < 2 ^ 128 → bit_and a_low b_low < 2 ^ 128 → IsWithin (members a_low a_high) (members b_low b_high) → bit_and a_low b_low ≡ a_low
  low_within a_fits fits all = word_within a_low b_low a_fits fits (λ k low on. sym (on_low b_low b_high k low) ∙ all k (omega arith) (on_low a_low a_high k low ∙ on))

  pub high_within : a_high < 2 ^ 128 → bit_and a_high b_high < 2 ^ 128 → IsWithin (members a_low a_high) (members b_low b_high) → bit_and a_high b_high ≡ a_high
  high_within a_fits fits all = word_within a_high b_high a_fits fits (λ k low on. sym (high_place b_low b_high k low) ∙ all (128 + k) (omega arith) (high_place a_low a_high k low ∙ on))

  pub apart : bit_and a_low b_low ≡ 0 → bit_and a_high b_high ≡ 0 → AreApart (members a_low a_high) (members b_low b_high)
  apart low high = places (λ x y. x ≡ true → y ≡ true → ⊥) (apart_words a_low b_low low) (apart_words a_high b_high high)

  pub low_apart : bit_and a_low b_low < 2 ^ 128 → AreApart (members a_low a_high) (members b_low b_high) → bit_and a_low b_low ≡ 0
  low_apart fits all = words_apart a_low b_low fits (λ k low first second. all k (omega arith) (on_low a_low a_high k low ∙ first) (on_low b_low b_high k low ∙ second))

  pub high_apart : bit_and a_high b_high < 2 ^ 128 → AreApart (members a_low a_high) (members b_low b_high) → bit_and a_high b_high ≡ 0
  high_apart fits all = words_apart a_high b_high fits (λ k low first second. all (128 + k) (omega arith) (high_place a_low a_high k low ∙ first) (high_place b_low b_high k low ∙ second))
