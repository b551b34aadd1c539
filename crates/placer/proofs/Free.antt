-- The free pins, bit by bit.
use Rattle.std.proofs.Common.{◌≡◌, ◌≢◌, ℕ, ◌+◌, ◌<◌, ◌≤◌, ◌==◌, nat_lt, Bool, true, false, not, ◌&&◌, List, length, set, refl, sym, ap, subst, ◌∙◌, arith, get_or-set_same, get_or-set_other, inl, inr}
use Rattle.placer.proofs.Common.{list_any, cases_eq, cases_lt, nat_tests, get_or_past, bits, is_on, is_on-zero, length-bits, Cell, Table, Entry, is_taken, is_enabled_by, is_pin_free, AreFree}

-- a free pin is one of the device's, and not its last
pub free_is_low : (t : Table) (es : List Entry) (pin : ℕ) → is_pin_free t es pin ≡ true → pin < t.pins
free_is_low t es pin free = low (pin == 0) (pin == t.ground_pin) (nat_lt pin t.pins) refl (not (pin == t.clock)) (not (list_any (λ (c : Cell). is_enabled_by pin c.enable) t.cells)) (not (is_taken es pin)) free
  where
    low : (a b c : Bool) → nat_lt pin t.pins ≡ c → (d e f : Bool) → ((not a && not b && c) && d && e && f) ≡ true → pin < t.pins
    low false false true is d e f h = grind (arith, nat_tests, is)
    low false false false is d e f h = absurd cc
    low true b c is d e f h = absurd cc
    low false true c is d e f h = absurd cc

-- the pins so far are marked if they are free, and no later one is
pub record IsFreeTo (t : Table) (es : List Entry) (below free : ℕ) : Type 0 where
  pub met : (pin : ℕ) → pin < 32 → pin < below → is_on (bits 32 free) pin ≡ is_pin_free t es pin
  pub rest : (pin : ℕ) → pin < 32 → below ≤ pin → is_on (bits 32 free) pin ≡ false

module _ (t : Table) (es : List Entry) where
  pub none_free : IsFreeTo t es 0 0
  none_free = record {
    met = λ pin low before. absurd (omega (arith, before));
    rest = λ pin low after. is_on-zero 32 pin low;
  }

  pub taken_more : (below free : ℕ) → below < 32 → is_pin_free t es below ≡ false → IsFreeTo t es below free → IsFreeTo t es (below + 1) free
  taken_more below free small taken so = record {
    met = λ pin low before. elim (cases_eq pin below) [
      | inl same ↦ ap (is_on (bits 32 free)) same ∙ (so.rest below small (omega arith) ∙ (sym taken ∙ ap (is_pin_free t es) (sym same)))
      | inr apart ↦ so.met pin low (omega (arith, before, apart))
    ];
    rest = λ pin low after. so.rest pin low (omega (arith, after));
  }

  pub free_more : (below free more : ℕ) → below < 32 → bits 32 more ≡ set (bits 32 free) below true → is_pin_free t es below ≡ true → IsFreeTo t es below free → IsFreeTo t es (below + 1) more
  free_more below free more small is here so = record {
    met = λ pin low before. elim (cases_eq pin below) [
      | inl same ↦ ap (is_on (bits 32 more)) same ∙ (ap (λ l. is_on l below) is ∙ (get_or-set_same (bits 32 free) below true false long ∙ (sym here ∙ ap (is_pin_free t es) (sym same))))
      | inr apart ↦ kept pin apart ∙ so.met pin low (omega (arith, before, apart))
    ];
    rest = λ pin low after. kept pin (λ same. absurd (omega (arith, after, same))) ∙ so.rest pin low (omega (arith, after));
  }
    where
      long : below < length (bits 32 free)
      long = subst (λ n. below < n) (sym (length-bits 32 free)) small

      kept : (pin : ℕ) → pin ≢ below → is_on (bits 32 more) pin ≡ is_on (bits 32 free) pin
      kept pin apart = ap (λ l. is_on l pin) is ∙ get_or-set_other (bits 32 free) below pin true false apart

  pub all_free : (below free : ℕ) → t.pins ≤ below → t.pins ≤ 24 → IsFreeTo t es below free → AreFree t es free
  all_free below free past high so pin = elim (cases_lt pin t.pins) [
    | inl low ↦ so.met pin (omega (arith, low, high)) (omega (arith, low, past))
    | inr after ↦ unmarked after ∙ by after (is_pin_free t es pin) refl
  ]
    where
      by : t.pins ≤ pin → (b : Bool) → is_pin_free t es pin ≡ b → false ≡ b
      by after false is = refl
      by after true is = let lower = free_is_low t es pin is in absurd (omega (arith, lower, after))

      unmarked : t.pins ≤ pin → is_on (bits 32 free) pin ≡ false
      unmarked after = elim (cases_lt pin 32) [
        | inl low ↦ elim (cases_lt pin below) [
          | inl before ↦ so.met pin low before ∙ sym (by after (is_pin_free t es pin) refl)
          | inr later ↦ so.rest pin low (omega (arith, later))
        ]
        | inr out ↦ get_or_past (bits 32 free) pin false (let long = length-bits 32 free in omega (arith, long, out))
      ]
