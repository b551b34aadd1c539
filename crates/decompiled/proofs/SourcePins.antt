-- The pins that a decompiled source declares: each pin of a line is one of them, and each is once.
use Rattle.std.proofs.Common.{◌≡◌, ℕ, Option, None, ◌<◌, Bool, true, Some, List, [], ◌∷◌, length, slice_get, refl, sym, ap, subst, ◌∙◌, arith, eq-eqb, ◌==◌}
use Rattle.decompiled.proofs.Common.{AllByRecursion, list_any, or_right, slice_get-map, slice_get_within, option_map, Carry, IsSignalPin, IsPair, IsDevice, Table, cell_at, no_cell, PinLiteral, PinLine, SumLine, lines_of, named_by, names_pin, pin_line, pins_of, product_names, source_of, ArePinsApart, place_of, signal_of}
use Rattle.pld_device.specs.declared.carry.Carry.TheVariants as carry
use Rattle.decompiled.proofs.Each.{each_member, each_weaker}
use Rattle.decompiled.proofs.SourceLines.{IsPairLiteral, IsCellLine, lines_on}
use Rattle.decompiled.proofs.PinPlaces.{IsTaken, place_there, place_within, same_some, some_there, taken, taken_once, was_taken}

module _ (t : Table) (fuses : List Bool) (laws : IsDevice t) where
  -- some line names the pin
  abbrev pub is_named : ℕ → Bool
  is_named pin = list_any (names_pin pin) (lines_of t fuses)

  -- a pin that is declared
  pub record IsDeclared (pin : ℕ) : Type 0 where
    pub there : slice_get (pins_of t fuses) (place_of (pins_of t fuses) pin) ≡ Some pin

  pub declared : (pin : ℕ) → IsSignalPin t pin → is_named pin ≡ true → IsDeclared pin
  declared pin ok named =
      record { there = place_there (pins_of t fuses) pin (taken is_named 1 t.pins pin ok.low (omega (arith, ok.high)) named) }

  pub declared_there : (k pin : ℕ) → slice_get (pins_of t fuses) k ≡ Some pin → IsDeclared pin
  declared_there k pin there = record { there = place_there (pins_of t fuses) pin (some_there (pins_of t fuses) k pin there) }

  -- ---- pins of lines

  pub cell_pin : (c : ℕ) → c < length t.cells → IsSignalPin t (cell_at t c).pin
  cell_pin c within = (laws.cells c no_cell within).pin

  pair_pin : (higher : Bool) (x : Carry) → IsPair t x → IsSignalPin t (named_by t fuses higher x).pin
  pair_pin higher (carry.Pin pin) law = law.0
  pair_pin higher (carry.Cell c) law = cell_pin c law

  abbrev pub IsDeclaredLiteral : PinLiteral → Type 0
  IsDeclaredLiteral l = IsPairLiteral t fuses l × IsDeclared l.pin

  -- a line whose pin is declared, and so are those of its literals
  pub record IsDeclaredLine (l : SumLine) : Type 0 where
    pub on : IsCellLine t fuses l
    pub pin : IsDeclared l.pin
    pub literals : AllByRecursion (AllByRecursion IsDeclaredLiteral) l.products

  -- what each test says of some line if it says so of this one
  abbrev IsAmong : {A : Type 0} → List A → A → Type 0
  IsAmong {A} xs x = (test : A → Bool) → test x ≡ true → list_any test xs ≡ true

  both : {A : Type 0} (P Q : A → Type 0) (xs : List A) → AllByRecursion P xs → AllByRecursion Q xs → AllByRecursion (λ x. P x × Q x) xs
  both P Q [] ps qs = tt
  both P Q (x ∷ xs) ps qs = ((ps.0, qs.0), both P Q xs ps.1 qs.1)

  among : {A : Type 0} (xs : List A) → AllByRecursion (IsAmong xs) xs
  among xs = each_member (IsAmong xs) xs (λ x member. member)

  line_declared : (l : SumLine) → IsCellLine t fuses l → IsAmong (lines_of t fuses) l → IsDeclaredLine l
  line_declared l on among_lines = record {
    on = on;
    pin = declared l.pin (subst (IsSignalPin t) (sym on.pin) (cell_pin on.cell on.within)) (among_lines (names_pin l.pin) (rw (eq-eqb l.pin l.pin refl) refl));
    literals =
        each_weaker (λ p. AllByRecursion (IsPairLiteral t fuses) p × IsAmong l.products p) (AllByRecursion IsDeclaredLiteral) product l.products
        (both (AllByRecursion (IsPairLiteral t fuses)) (IsAmong l.products) l.products on.literals (among l.products));
  }
    where
      literal : (p : List PinLiteral) → IsAmong l.products p → (k : PinLiteral) → IsPairLiteral t fuses k × IsAmong p k → IsDeclaredLiteral k
      literal p in_sum k of = (
        of.0,
        declared k.pin (subst (λ (j : PinLiteral). IsSignalPin t j.pin) (sym of.0.is) (pair_pin of.0.higher of.0.pair of.0.law))
            (among_lines (names_pin k.pin) (or_right (l.pin == k.pin) (list_any (product_names k.pin) l.products) (in_sum (product_names k.pin) (of.1 (λ (j : PinLiteral). j.pin == k.pin) (eq-eqb k.pin k.pin refl))))),
      )

      product : (p : List PinLiteral) → AllByRecursion (IsPairLiteral t fuses) p × IsAmong l.products p → AllByRecursion IsDeclaredLiteral p
      product p has =
          each_weaker (λ k. IsPairLiteral t fuses k × IsAmong p k) IsDeclaredLiteral (literal p has.1) p
          (both (IsPairLiteral t fuses) (IsAmong p) p has.0 (among p))

  pub lines_declared : AllByRecursion IsDeclaredLine (lines_of t fuses)
  lines_declared =
      each_weaker (λ l. IsCellLine t fuses l × IsAmong (lines_of t fuses) l) IsDeclaredLine (λ l has. line_declared l has.0 has.1) (lines_of t fuses)
      (both (IsCellLine t fuses) (IsAmong (lines_of t fuses)) (lines_of t fuses) (lines_on t fuses laws) (among (lines_of t fuses)))

  -- ---- the declarations

  -- the declaration of a pin that is declared
  pub line_there : (pin : ℕ) → IsDeclared pin → slice_get (source_of t fuses).pins (place_of (pins_of t fuses) pin) ≡ Some (pin_line t fuses pin)
  line_there pin is = slice_get-map (pin_line t fuses) (pins_of t fuses) (place_of (pins_of t fuses) pin) ∙ ap (option_map (pin_line t fuses)) is.there

  -- a declaration by its number
  pub record IsDeclaredAt (k : ℕ) (l : PinLine) : Type 0 where
    pub pin : ℕ
    pub there : slice_get (pins_of t fuses) k ≡ Some pin
    pub is : l ≡ pin_line t fuses pin

  pub declared_at : (k : ℕ) (l : PinLine) → slice_get (source_of t fuses).pins k ≡ Some l → IsDeclaredAt k l
  declared_at k l there = by_option (slice_get (pins_of t fuses) k) refl (sym (slice_get-map (pin_line t fuses) (pins_of t fuses) k) ∙ there)
    where
      by_option : (o : Option ℕ) → slice_get (pins_of t fuses) k ≡ o → option_map (pin_line t fuses) o ≡ Some l → IsDeclaredAt k l
      by_option None is found = absurd cc
      by_option (Some pin) is found = record { pin = pin; there = is; is = sym (same_some (pin_line t fuses pin) l found) }

  pub pins_low : (i : ℕ) (a : PinLine) → slice_get (source_of t fuses).pins i ≡ Some a → a.pin < 32
  pins_low i a there =
      let at = declared_at i a there in
      let of : IsTaken is_named 1 t.pins at.pin = was_taken is_named 1 t.pins i at.pin at.there in
      subst (λ (l : PinLine). l.pin < 32) (sym at.is) (omega (arith, of.high, laws.sizes.pins_high))

  pub pins_apart : ArePinsApart (source_of t fuses).pins
  pins_apart i j a b a_there b_there same =
      let at_i = declared_at i a a_there in
      let at_j = declared_at j b b_there in
      let pins : at_i.pin ≡ at_j.pin = sym (ap (λ (l : PinLine). l.pin) at_i.is) ∙ same ∙ ap (λ (l : PinLine). l.pin) at_j.is in
      taken_once is_named 1 t.pins i j at_i.pin at_i.there (subst (λ (p : ℕ). slice_get (pins_of t fuses) j ≡ Some p) (sym pins) at_j.there)

  -- pins with one place are one pin
  pub same_place : (pin other : ℕ) → IsDeclared pin → place_of (pins_of t fuses) other ≡ place_of (pins_of t fuses) pin → other ≡ pin
  same_place pin other is same =
      let here : slice_get (pins_of t fuses) (place_of (pins_of t fuses) other) ≡ Some pin = subst (λ (k : ℕ). slice_get (pins_of t fuses) k ≡ Some pin) (sym same) is.there in
      same_some other pin (sym (place_within (pins_of t fuses) other (slice_get_within (pins_of t fuses) (place_of (pins_of t fuses) other) pin here)) ∙ here)

  pub own_signal : (pin other : ℕ) → IsDeclared pin → signal_of t fuses other ≡ signal_of t fuses pin → other ≡ pin
  own_signal pin other is same = same_place pin other is (omega (arith, same))
