-- What is found at a pin, by what a point shows.
use Rattle.std.proofs.Common.{◌≡◌, ℕ, suc, ◌+◌, ◌<◌, Bool, true, false, ◌&&◌, ◌==◌, List, ◌∷◌, ◌++◌, length, get_or, drop, refl, ap, sym, ◌∙◌, arith, inl, inr, add-one, drop-cons, append_assoc}
use Rattle.device_sim.proofs.Common.{list_any, range_with_len, cases_Bool, eqb-true, eqb-false, true≢false, is_on, Levels, Logic, Lookups, logic_of, HasPins, any_at, any_none, one_of, Mismatch, is_driven, found, found_at, mismatch_at, vector_mismatches}
use Rattle.pld_machine.specs.Shows.{Shows}

module _ (m : Lookups) (at : Levels) (driven level : List Bool) (pins : HasPins m) (shows : Shows (logic_of m) at driven level) (k : ℕ) (low : k < 32) where
  -- the cell is on the pin, and drives it
  drives : ℕ → Bool
  drives c = (m.pin c == k) && m.enable at c

  -- no other cell is on the pin
  only_cell : (c : ℕ) → c < m.cells → (m.pin c == k) ≡ true → m.enable at c ≡ false → (d : ℕ) → d < m.cells → drives d ≡ false
  unfolding drives
  only_cell c within on off d d_within =
      elim (cases_Bool (m.pin d == k)) [
        | inl same ↦
            let one : d ≡ c = pins.apart d c d_within within (eqb-true (m.pin d) k same ∙ sym (eqb-true (m.pin c) k on)) in
            rw (same, one) off
        | inr other ↦ rw other refl
      ]

  driven_at : (c : ℕ) → c < m.cells → (m.pin c == k) ≡ true → is_on driven k ≡ list_any drives (range_with_len 0 m.cells)
  unfolding drives
  driven_at c within on =
      let shown : is_on driven k ≡ m.enable at c = rw (eqb-true (m.pin c) k on) at (shows.cells c within) in
      elim (cases_Bool (m.enable at c)) [
        | inl yes_on ↦ shown ∙ (yes_on ∙ sym (any_at drives 0 m.cells c (omega arith) (omega (arith, within)) (rw (on, yes_on) refl)))
        | inr off ↦ shown ∙ (off ∙ sym (any_none drives 0 m.cells (λ d first d_low. only_cell c within on off d (omega (arith, d_low)))))
      ]

  no_cell : list_any (λ c. m.pin c == k) (range_with_len 0 m.cells) ≡ false → (c : ℕ) → c < m.cells → (m.pin c == k) ≡ false
  no_cell none c within =
      elim (cases_Bool (m.pin c == k)) [
        | inl on ↦ absurd (true≢false (sym (any_at (λ d. m.pin d == k) 0 m.cells c (omega arith) (omega (arith, within)) on) ∙ none))
        | inr off ↦ off
      ]

  -- a pin is shown as driven if some cell drives it
  driven_is : is_on driven k ≡ list_any drives (range_with_len 0 m.cells)
  unfolding drives
  driven_is =
      elim (cases_Bool (list_any (λ c. m.pin c == k) (range_with_len 0 m.cells))) [
        | inl some ↦
            let cell = one_of (λ c. m.pin c == k) 0 m.cells some in
            driven_at cell.0 (omega (arith, cell.2)) cell.3
        | inr none ↦
            shows.others k low (λ c within. eqb-false (m.pin c) k (no_cell none c within))
            ∙ sym (any_none drives 0 m.cells (λ c first within. rw (no_cell none c (omega (arith, within))) refl))
      ]

  -- what is found at the pin is given by what the point shows
  pub found_is : found (is_on driven k) (is_on level k) ≡ found_at (logic_of m) at k
  unfolding drives
  found_is = rw (shows.levels k low) (elim (cases_Bool (is_on driven k)) [
    | inl is_driven ↦ rw (is_driven, sym driven_is ∙ is_driven) refl
    | inr released ↦ rw (released, sym driven_is ∙ released) refl
  ])

-- a pin's mismatch, and those of the pins after it
pub more_pins : (m : Logic) (at : Levels) (vector : ℕ) (chars : List ℕ) (i : ℕ) (list more whole : List Mismatch) → i < length chars → more ≡ list ++ mismatch_at m at vector (i + 1) (get_or chars i 0) → whole ≡ list ++ vector_mismatches m at vector (i + 1) (drop i chars) → whole ≡ more ++ vector_mismatches m at vector (i + 1 + 1) (drop (i + 1) chars)
more_pins m at vector chars i list more whole within more_is whole_is =
    let front : drop i chars ≡ get_or chars i 0 ∷ drop (suc i) chars = drop-cons chars i 0 within in
    let unfolded : whole ≡ list ++ (mismatch_at m at vector (i + 1) (get_or chars i 0) ++ vector_mismatches m at vector (suc (i + 1)) (drop (suc i) chars)) = rw front at whole_is in
    let behind : drop (i + 1) chars ≡ drop (suc i) chars = ap (λ n. drop n chars) (add-one i) in
    rw (more_is, append_assoc, add-one (i + 1), behind) unfolded
