-- The pins that a decompiled source declares are signal pins.
use Rattle.std.proofs.Common.{◌≡◌, ℕ, inl, inr, Bool, true, Some, List, [], ◌∷◌, slice_get, sym, ap, subst, ◌∙◌, eqb-true, ◌==◌}
use Rattle.decompiler.proofs.Common.{AllByRecursion, list_any, or_cases, true≢false, Carry, IsSignalPin, IsPair, IsDevice, Table, PinLiteral, PinLine, SumLine, lines_of, named_by, names_pin, product_names, source_of, IsPairLiteral, IsCellLine, lines_on, IsTaken, was_taken, cell_pin, declared_at, is_named}
use Rattle.pld_device.specs.declared.carry.Carry.TheVariants as carry

-- what follows from each element that passes, if some does
some_gives : {A : Type 0} (P : A → Type 0) (test : A → Bool) (G : Type 0) → ((x : A) → P x → test x ≡ true → G) → (xs : List A) → AllByRecursion P xs → list_any test xs ≡ true → G
some_gives P test G gives [] all some = absurd (true≢false (sym some))
some_gives P test G gives (x ∷ xs) all some = elim (or_cases (test x) (list_any test xs) some) [
  | inl here ↦ gives x all.0 here
  | inr later ↦ some_gives P test G gives xs all.1 later
]

module _ (t : Table) (fuses : List Bool) (laws : IsDevice t) where
  pair_pin : (higher : Bool) (x : Carry) → IsPair t x → IsSignalPin t (named_by t fuses higher x).pin
  pair_pin higher (carry.Pin pin) law = law.0
  pair_pin higher (carry.Cell c) law = cell_pin t fuses laws c law

  of_literal : (pin : ℕ) (l : PinLiteral) → IsPairLiteral t fuses l → (l.pin == pin) ≡ true → IsSignalPin t pin
  of_literal pin l of same =
      subst (IsSignalPin t) (ap (λ (k : PinLiteral). k.pin) (sym of.is) ∙ eqb-true l.pin pin same) (pair_pin of.higher of.pair of.law)

  of_product : (pin : ℕ) (p : List PinLiteral) → AllByRecursion (IsPairLiteral t fuses) p → product_names pin p ≡ true → IsSignalPin t pin
  of_product pin p all named = some_gives (IsPairLiteral t fuses) (λ (l : PinLiteral). l.pin == pin) (IsSignalPin t pin) (of_literal pin) p all named

  of_line : (pin : ℕ) (l : SumLine) → IsCellLine t fuses l → names_pin pin l ≡ true → IsSignalPin t pin
  of_line pin l on named = elim (or_cases (l.pin == pin) (list_any (product_names pin) l.products) named) [
    | inl own ↦ subst (IsSignalPin t) (sym on.pin ∙ eqb-true l.pin pin own) (cell_pin t fuses laws on.cell on.within)
    | inr some ↦ some_gives (AllByRecursion (IsPairLiteral t fuses)) (product_names pin) (IsSignalPin t pin) (of_product pin) l.products on.literals some
  ]

  pub pins_signal : (i : ℕ) (a : PinLine) → slice_get (source_of t fuses).pins i ≡ Some a → IsSignalPin t a.pin
  pins_signal i a there =
      let at = declared_at t fuses laws i a there in
      let of : IsTaken (is_named t fuses laws) 1 t.pins at.pin = was_taken (is_named t fuses laws) 1 t.pins i at.pin at.there in
      subst (λ (l : PinLine). IsSignalPin t l.pin) (sym at.is)
      (some_gives (IsCellLine t fuses) (names_pin at.pin) (IsSignalPin t at.pin) (of_line at.pin) (lines_of t fuses) (lines_on t fuses laws) of.passes)
