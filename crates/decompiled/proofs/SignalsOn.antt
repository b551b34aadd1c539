-- The signal that is assigned on a cell: that of its pin, if the cell has lines.
use Rattle.std.proofs.Common.{◌≡◌, ℕ, zero, suc, ◌+◌, ◌<◌, ◌≤◌, ◌⊎◌, inl, inr, Bool, true, false, Option, Some, None, List, ◌++◌, length, slice_get, get_or, flat_map, refl, sym, ap, subst, ◌∙◌, arith, ◌&&◌, ◌||◌, position, IsSome}
use Rattle.decompiled.proofs.Common.{list_any, range_with_len, and_parts, cases_Bool, cases_lt, eq-eqb, eqb-true, or_right, true≢false, list_any-append, get_or_from_slice_get, slice_get_within, IsDevice, Table, cell_at, Kind, APin, Entry, is_stored, ModuleTree, cell_on, is_on_pin, signal_on, design_of, name_at, no_name, names_of, cell_by, cell_of, SumLine, IsSourceTree, cell_lines, first_register, has_lines, lines_of, names_pin, pins_of, shared_lines, source_of, place_of, signal_of}
use Rattle.std.proofs.lemmas.List.Quantifiers.{position-Some}
use Rattle.abel_tree.specs.declared.words.Extension.TheVariants as extension
use Rattle.netlist_laws.specs.Takeable.{RegistersHaveCells}
use Rattle.netlist_laws.proofs.SoundLeaves.{only_place}
use Rattle.decompiled.proofs.PinPlaces.{taken_once}
use Rattle.decompiled.proofs.SourcePins.{IsDeclared, cell_pin, declared, declared_there, is_named}
use Rattle.decompiled.proofs.SourceNames.{IsNameAt, names_at, pin_named}
use Rattle.decompiled.proofs.SourceReads.{cell_here}
use Rattle.decompiled.proofs.PinWords.{cell_name, free_plain, name, on_cell}

-- ---- lists

or_left : (a b : Bool) → a ≡ true → (a || b) ≡ true
or_left true b e = refl
or_left false b e = absurd (true≢false (sym e))

-- what some number of a range gives
pub any_given : {A : Type 0} (test : A → Bool) (give : ℕ → List A) (a n c : ℕ) → a ≤ c → c < a + n → list_any test (give c) ≡ true → list_any test (flat_map give (range_with_len a n)) ≡ true
any_given test give a zero c low high some = absurd (omega arith)
any_given test give a (suc n) c low high some =
    list_any-append test (give a) (flat_map give (range_with_len (a + 1) n))
    ∙ by_place (cases_lt a c) (λ less. any_given test give (a + 1) n c less (omega (arith, high)) some)
  where
    by_place : (a < c) ⊎ (c ≤ a) → (a + 1 ≤ c → list_any test (flat_map give (range_with_len (a + 1) n)) ≡ true) → (list_any test (give a) || list_any test (flat_map give (range_with_len (a + 1) n))) ≡ true
    by_place (inl before) later = or_right (list_any test (give a)) (list_any test (flat_map give (range_with_len (a + 1) n))) (later (omega (arith, before)))
    by_place (inr past) later =
        let same : a ≡ c = omega (arith, past, low) in
        or_left (list_any test (give a)) (list_any test (flat_map give (range_with_len (a + 1) n))) (ap (λ (k : ℕ). list_any test (give k)) same ∙ some)

-- if none passes, none is first
pub none_first : {X : Type 0} (test : X → Bool) (xs : List X) (d : X) → ((j : ℕ) → test (get_or xs j d) ≡ false) → position test xs ≡ None
none_first test xs d none = by_found (position test xs) refl
  where
    by_found : (o : Option ℕ) → position test xs ≡ o → position test xs ≡ None
    by_found None e = e
    by_found (Some j) e = absurd (true≢false (sym (position-Some test xs j d e).1 ∙ none j))

-- ---- cells

module _ (t : Table) (fuses : List Bool) (laws : IsDevice t) where
  -- the pin of a cell that has lines is declared
  pub lines_declare : (c : ℕ) → c < length t.cells → has_lines t fuses c ≡ true → IsDeclared t fuses laws (cell_at t c).pin
  lines_declare c within some = declared t fuses laws (cell_at t c).pin (cell_pin t fuses laws c within) named
    where
      test : SumLine → Bool
      test = names_pin (cell_at t c).pin

      cells : List SumLine
      cells = flat_map (cell_lines t fuses) (range_with_len 0 (length t.cells))

      resets : List SumLine
      resets = shared_lines t fuses extension.Ar (first_register t fuses) t.reset

      presets : List SumLine
      presets = shared_lines t fuses extension.Sp (first_register t fuses) t.preset

      here : list_any test (cell_lines t fuses c) ≡ true
      here = rw some (rw (eq-eqb (cell_at t c).pin (cell_at t c).pin refl) refl)

      named : list_any test (lines_of t fuses) ≡ true
      named =
          list_any-append test (cells ++ resets) presets
          ∙ or_left (list_any test (cells ++ resets)) (list_any test presets)
          (list_any-append test cells resets ∙ or_left (list_any test cells) (list_any test resets) (any_given test (cell_lines t fuses) 0 (length t.cells) c (omega arith) (omega (arith, within)) here))

  module _ (m : ModuleTree) (is : IsSourceTree (source_of t fuses) m) where
    -- the name is assigned on the cell
    abbrev is_here : ℕ → Entry → Bool
    is_here c x = x.assigned && is_on_pin (cell_at t c).pin x.kind

    -- it is the name of the cell's pin, which is declared
    here_named : (c j : ℕ) → c < length t.cells → is_here c (get_or (names_of t m) j no_name) ≡ true
        → (j ≡ signal_of t fuses (cell_at t c).pin) × IsDeclared t fuses laws (cell_at t c).pin
    here_named c j within hit = by_name (names_at t fuses laws m is j)
      where
        parts : ((get_or (names_of t m) j no_name).assigned ≡ true) × (is_on_pin (cell_at t c).pin (get_or (names_of t m) j no_name).kind ≡ true)
        parts = and_parts (get_or (names_of t m) j no_name).assigned (is_on_pin (cell_at t c).pin (get_or (names_of t m) j no_name).kind) hit

        by_name : IsNameAt t fuses laws m is j → (j ≡ signal_of t fuses (cell_at t c).pin) × IsDeclared t fuses laws (cell_at t c).pin
        by_name (inl device) = absurd (true≢false (sym parts.1 ∙ ap (is_on_pin (cell_at t c).pin) device.0))
        by_name (inr of) =
            let same : of.1 ≡ (cell_at t c).pin = eqb-true of.1 (cell_at t c).pin (sym (ap (is_on_pin (cell_at t c).pin) of.4) ∙ parts.1) in
            let there : slice_get (pins_of t fuses) of.0 ≡ Some (cell_at t c).pin = subst (λ (p : ℕ). slice_get (pins_of t fuses) of.0 ≡ Some p) same of.3 in
            let dec = declared_there t fuses laws of.0 (cell_at t c).pin there in (
              of.2 ∙ ap suc (taken_once (is_named t fuses laws) 1 t.pins of.0 (place_of (pins_of t fuses) (cell_at t c).pin) (cell_at t c).pin there dec.there),
              dec,
            )

    pub on_it : (c : ℕ) → c < length t.cells → has_lines t fuses c ≡ true → signal_on (design_of t m).context c ≡ Some (signal_of t fuses (cell_at t c).pin)
    on_it c within some =
        let pin : ℕ = (cell_at t c).pin in
        let dec : IsDeclared t fuses laws pin = lines_declare c within some in
        let x = cell_name t fuses laws m is c within dec in
        only_place (is_here c) no_name (names_of t m) (signal_of t fuses pin)
        (slice_get_within (names_of t m) (signal_of t fuses pin) _ (pin_named t fuses laws m is pin dec).there)
        (ap (λ (b : Bool). b && is_on_pin pin (name t fuses laws m is pin).kind) (x.assigned ∙ some) ∙ ap (is_on_pin pin) x.kind ∙ eq-eqb pin pin refl)
        (λ j hit. (here_named c j within hit).0)

    pub on_none : (c : ℕ) → c < length t.cells → has_lines t fuses c ≡ false → signal_on (design_of t m).context c ≡ None
    on_none c within none = none_first (is_here c) (names_of t m) no_name fails
      where
        fails : (j : ℕ) → is_here c (get_or (names_of t m) j no_name) ≡ false
        fails j = elim (cases_Bool (is_here c (get_or (names_of t m) j no_name))) [
          | inl hit ↦ absurd (true≢false (sym (assigned_here j hit) ∙ none))
          | inr miss ↦ miss
        ]
          where
            assigned_here : (j : ℕ) → is_here c (get_or (names_of t m) j no_name) ≡ true → has_lines t fuses c ≡ true
            assigned_here j hit =
                let at = here_named c j within hit in
                let x = cell_name t fuses laws m is c within at.1 in
                sym x.assigned ∙ ap (λ (i : ℕ). (name_at (design_of t m).context i).assigned) (sym at.0)
                ∙ (and_parts (get_or (names_of t m) j no_name).assigned (is_on_pin (cell_at t c).pin (get_or (names_of t m) j no_name).kind) hit).0

    -- ---- registers

    pub registers_have_cells : RegistersHaveCells (design_of t m).context
    registers_have_cells s x there stored = by_name (names_at t fuses laws m is s)
      where
        x_is : get_or (names_of t m) s no_name ≡ x
        x_is = get_or_from_slice_get (names_of t m) s x no_name there

        on_pin : (pin : ℕ) → s ≡ signal_of t fuses pin → IsDeclared t fuses laws pin → IsSome (cell_by t x (APin pin false))
        on_pin pin at dec = elim (on_cell t fuses laws m is pin) [
          | inl c ↦ some_cell c.0 c.1 c.2
          | inr none ↦ absurd (true≢false (sym stored ∙ ap is_stored (sym x_is ∙ ap (λ (i : ℕ). get_or (names_of t m) i no_name) at) ∙ free_plain t fuses laws m is pin dec none))
        ]
          where
            assigned : x.assigned ≡ true
            assigned = (and_parts x.words.registered x.assigned stored).1

            some_cell : (c : ℕ) → c < length t.cells → (cell_at t c).pin ≡ pin → IsSome (cell_by t x (APin pin false))
            some_cell c within same = rw assigned (rw (ap (cell_on t) (sym same) ∙ cell_here t laws c within) refl)

        by_name : IsNameAt t fuses laws m is s → IsSome (cell_of t x)
        by_name (inl device) = absurd (true≢false (sym stored ∙ ap is_stored (sym x_is) ∙ device.1))
        by_name (inr of) =
            let dec = declared_there t fuses laws of.0 of.1 of.3 in
            let at : s ≡ signal_of t fuses of.1 = of.2 ∙ ap suc (taken_once (is_named t fuses laws) 1 t.pins of.0 (place_of (pins_of t fuses) of.1) of.1 of.3 dec.there) in
            subst (λ (k : Kind). IsSome (cell_by t x k)) (sym of.4 ∙ ap (λ (y : Entry). y.kind) x_is) (on_pin of.1 at dec)
