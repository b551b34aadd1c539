-- The names of a decompiled source on a pin: which are registers, which are assigned, and that each has a number.
use Rattle.std.proofs.Common.{◌≡◌, ℕ, zero, suc, ◌+◌, ◌<◌, ◌≤◌, inl, inr, Bool, true, false, Some, List, [], ◌∷◌, length, filter, slice_get, get_or, refl, sym, ap, subst, ◌∙◌, arith, eq-eqb, eqb-true, ne_eqb, ◌==◌, ◌&&◌}
use Rattle.decompiler.proofs.Common.{and_from, and_right, cases_Bool, list_any, range_with_len, IsDevice, stores, Table, cell_at, Entry, is_stored, ModuleTree, is_on_pin, is_unnumbered, names_of, no_name, IsTaken, taken_once, was_taken, cell_name, free_plain, kind_is, name, on_cell, IsNameAt, names_at, IsDeclared, declared_there, is_named, IsSourceTree, has_lines, pins_of, source_of, place_of, signal_of}
use Rattle.std.proofs.lemmas.List.Folds.{list_any_at}
use Rattle.std.proofs.lemmas.Option.{slice_get_within}
use Rattle.decompiled.proofs.SignalsOn.{lines_declare}
use Rattle.decompiled.proofs.SourceNames.{name_is, pin_named}
use Rattle.decompiler.proofs.PinTargets.{none_at}

-- what no element passes
pub none_kept : {A : Type 0} (test : A → Bool) (xs : List A) (d : A) → ((i : ℕ) → i < length xs → test (get_or xs i d) ≡ false) → filter test xs ≡ []
none_kept test [] d none = refl
none_kept test (x ∷ xs) d none = rw (none 0 (omega arith)) (none_kept test xs d (λ i within. none (suc i) (omega (arith, within))))

pub none_in_range : (test : ℕ → Bool) → ((i : ℕ) → test i ≡ false) → (a n : ℕ) → filter test (range_with_len a n) ≡ []
none_in_range test none a zero = refl
none_in_range test none a (suc n) = rw (none a) (none_in_range test none (a + 1) n)

and_left_off : (a b : Bool) → a ≡ false → (a && b) ≡ false
and_left_off true b e = absurd cc
and_left_off false b e = refl

not_zero : (n : ℕ) → 1 ≤ n → (n == 0) ≡ false
not_zero n low = ne_eqb n 0 (λ e. omega (arith, low, e))

module _ (t : Table) (fuses : List Bool) (laws : IsDevice t) (m : ModuleTree) (is : IsSourceTree (source_of t fuses) m) where
  abbrev es : List Entry
  es = names_of t m

  abbrev name_on : ℕ → Entry
  name_on pin = name t fuses laws m is pin

  -- a name with a pin is that of the pin
  pub record IsNameOf (j pin : ℕ) : Type 0 where
    pub declared : IsDeclared t fuses laws pin
    pub at : j ≡ signal_of t fuses pin

  named_there : (j k pin : ℕ) → j ≡ suc k → slice_get (pins_of t fuses) k ≡ Some pin → IsNameOf j pin
  named_there j k pin at there =
      let dec = declared_there t fuses laws k pin there in
      record {
        declared = dec;
        at = at ∙ ap suc (taken_once (is_named t fuses laws) 1 t.pins k (place_of (pins_of t fuses) pin) pin there dec.there);
      }

  pub name_of_pin : (j pin : ℕ) → is_on_pin pin (get_or es j no_name).kind ≡ true → IsNameOf j pin
  name_of_pin j pin on = by_name (names_at t fuses laws m is j)
    where
      by_name : IsNameAt t fuses laws m is j → IsNameOf j pin
      by_name (inl device) = absurd (false_true (sym (ap (is_on_pin pin) device.0) ∙ on))
        where
          false_true : false ≡ true → ⊥
          false_true e = cc
      by_name (inr of) =
          let same : of.1 ≡ pin = eqb-true of.1 pin (sym (ap (is_on_pin pin) of.4) ∙ on) in
          named_there j of.0 pin of.2 (subst (λ (p : ℕ). slice_get (pins_of t fuses) of.0 ≡ Some p) same of.3)

  name_there : (pin : ℕ) → IsDeclared t fuses laws pin → slice_get es (signal_of t fuses pin) ≡ Some (name_on pin)
  name_there pin dec = (pin_named t fuses laws m is pin dec).there ∙ ap (λ (x : Entry). Some x) (sym (name_is t fuses laws m is pin dec))

  -- what is said of the names on a pin is said of the pin's own
  module _ (test : Entry → Bool) (pin : ℕ) where
    abbrev is_here : Entry → Bool
    is_here x = test x && is_on_pin pin x.kind

    there : IsDeclared t fuses laws pin → test (name_on pin) ≡ true → list_any is_here es ≡ true
    there dec passes =
        list_any_at is_here es (signal_of t fuses pin) no_name
        (slice_get_within es (signal_of t fuses pin) (name_on pin) (name_there pin dec))
        (and_from (test (name_on pin)) (is_on_pin pin (name_on pin).kind) passes (ap (is_on_pin pin) (kind_is t fuses laws m is pin dec) ∙ eq-eqb pin pin refl))

    not_there : (IsDeclared t fuses laws pin → test (name_on pin) ≡ false) → list_any is_here es ≡ false
    not_there fails = none_at is_here es no_name (λ j within. elim (cases_Bool (is_on_pin pin (get_or es j no_name).kind)) [
      | inl on ↦
          let of = name_of_pin j pin on in
          and_left_off (test (get_or es j no_name)) (is_on_pin pin (get_or es j no_name).kind) (ap (λ (i : ℕ). test (get_or es i no_name)) of.at ∙ fails of.declared)
      | inr off ↦ and_right (test (get_or es j no_name)) (is_on_pin pin (get_or es j no_name).kind) off
    ])

    pub on_pin : (b : Bool) → (b ≡ true → IsDeclared t fuses laws pin) → (IsDeclared t fuses laws pin → test (name_on pin) ≡ b) → list_any is_here es ≡ b
    on_pin true dec is_b = there (dec refl) (is_b (dec refl))
    on_pin false dec is_b = not_there is_b

  -- ---- cells

  module _ (c : ℕ) (within : c < length t.cells) where
    stored_declared : stores t fuses c ≡ true → IsDeclared t fuses laws (cell_at t c).pin
    stored_declared stored = lines_declare t fuses laws c within (rw stored refl)

    pub stored_on : list_any (λ (x : Entry). is_stored x && is_on_pin (cell_at t c).pin x.kind) es ≡ stores t fuses c
    stored_on = on_pin is_stored (cell_at t c).pin (stores t fuses c) stored_declared (λ dec. (cell_name t fuses laws m is c within dec).stored)

    pub assigned_on : list_any (λ (x : Entry). x.assigned && is_on_pin (cell_at t c).pin x.kind) es ≡ has_lines t fuses c
    assigned_on =
        on_pin (λ (x : Entry). x.assigned) (cell_at t c).pin (has_lines t fuses c) (lines_declare t fuses laws c within) (λ dec. (cell_name t fuses laws m is c within dec).assigned)

    pub some_register : stores t fuses c ≡ true → list_any is_stored es ≡ true
    some_register stored =
        let dec = stored_declared stored in
        list_any_at is_stored es (signal_of t fuses (cell_at t c).pin) no_name
        (slice_get_within es (signal_of t fuses (cell_at t c).pin) (name_on (cell_at t c).pin) (name_there (cell_at t c).pin dec))
        ((cell_name t fuses laws m is c within dec).stored ∙ stored)

  -- without a cell that stores no name is a register
  pub no_registers : ((c : ℕ) → c < length t.cells → stores t fuses c ≡ false) → list_any is_stored es ≡ false
  no_registers plain = none_at is_stored es no_name (λ j within. by_name j (names_at t fuses laws m is j))
    where
      plain_pin : (pin : ℕ) → IsDeclared t fuses laws pin → is_stored (name_on pin) ≡ false
      plain_pin pin dec = elim (on_cell t fuses laws m is pin) [
        | inl c ↦ subst (λ (p : ℕ). is_stored (name_on p) ≡ false) c.2 ((cell_name t fuses laws m is c.0 c.1 (subst (IsDeclared t fuses laws) (sym c.2) dec)).stored ∙ plain c.0 c.1)
        | inr none ↦ free_plain t fuses laws m is pin dec none
      ]

      by_name : (j : ℕ) → IsNameAt t fuses laws m is j → is_stored (get_or es j no_name) ≡ false
      by_name j (inl device) = device.1
      by_name j (inr of) =
          let at = named_there j of.0 of.1 of.2 of.3 in
          ap (λ (i : ℕ). is_stored (get_or es i no_name)) at.at ∙ plain_pin of.1 at.declared

  -- each name has a number
  pub numbered : (j : ℕ) → is_unnumbered (get_or es j no_name).kind ≡ false
  numbered j = by_name (names_at t fuses laws m is j)
    where
      by_name : IsNameAt t fuses laws m is j → is_unnumbered (get_or es j no_name).kind ≡ false
      by_name (inl device) = ap is_unnumbered device.0
      by_name (inr of) =
          let taken : IsTaken (is_named t fuses laws) 1 t.pins of.1 = was_taken (is_named t fuses laws) 1 t.pins of.0 of.1 of.3 in
          ap is_unnumbered of.4 ∙ not_zero of.1 taken.low
