-- A pin that a source names isn't the one that may power the chip down, if the fuses spare that one.
use Rattle.std.proofs.Common.{◌≡◌, ℕ, zero, suc, ◌+◌, ◌≤◌, inl, inr, Bool, true, false, List, filter, refl, sym, ap, ◌∙◌, arith, eq-eqb, eqb-true, ◌==◌}
use Rattle.std.proofs.lemmas.List.Folds.{list_any_at}
use Rattle.std.proofs.lemmas.Option.{get_or_from_slice_get, slice_get_within}
use Rattle.decompiler.proofs.Common.{list_any, range_with_len, cases_Bool, true≢false, IsDevice, Table, SparesPowerDown, lines_of, names_pin, pins_of, place_of, IsDeclared}

not_zero : (n : ℕ) → 1 ≤ n → (n == 0) ≡ false
not_zero n low = elim (cases_Bool (n == 0)) [
  | inl is ↦ absurd (let none = eqb-true n 0 is in omega (arith, low, none))
  | inr other ↦ other
]

-- pins count from 1
none_zero : (test : ℕ → Bool) (first n : ℕ) → 1 ≤ first → list_any (λ pin. pin == 0) (filter test (range_with_len first n)) ≡ false
none_zero test first zero low = refl
none_zero test first (suc n) low =
    let rest = none_zero test (first + 1) n (omega (arith, low)) in
    elim (cases_Bool (test first)) [
      | inl e ↦ rw (e, not_zero first low) rest
      | inr e ↦ rw e rest
    ]

module _ (t : Table) (fuses : List Bool) (laws : IsDevice t) where
  found : (test : ℕ → Bool) (pin : ℕ) → IsDeclared t fuses laws pin → test pin ≡ true → list_any test (pins_of t fuses) ≡ true
  found test pin dec holds =
      let place : ℕ = place_of (pins_of t fuses) pin in
      list_any_at test (pins_of t fuses) place 0 (slice_get_within (pins_of t fuses) place pin dec.there)
      (ap test (get_or_from_slice_get (pins_of t fuses) place pin 0 dec.there) ∙ holds)

  above_zero : (pin : ℕ) → IsDeclared t fuses laws pin → pin ≡ 0 → ⊥
  above_zero pin dec zero_is =
      true≢false
      (
      sym (found (λ p. p == 0) pin dec (eq-eqb pin 0 zero_is))
      ∙ none_zero (λ p. list_any (names_pin p) (lines_of t fuses)) 1 t.pins (omega arith)
      )

  pub is_spared : SparesPowerDown t fuses → (pin : ℕ) → IsDeclared t fuses laws pin → (pin == t.power_down) ≡ false
  is_spared spares pin dec = elim (cases_Bool (pin == t.power_down)) [
    | inl same ↦
        let is = eqb-true pin t.power_down same in
        absurd (true≢false (sym (found (λ p. p == t.power_down) pin dec same) ∙ spares (λ none. above_zero pin dec (is ∙ none))))
    | inr other ↦ other
  ]
