-- The rows that reset and preset: one line at the first register, or none; and the registers share it.
use Rattle.std.proofs.Common.{◌≡◌, ℕ, zero, suc, ◌+◌, ◌⊎◌, inl, inr, Bool, true, false, Option, Some, None, List, [], ◌∷◌, ◌++◌, length, filter, flat_map, map, slice_get, unwrap_or, refl, sym, ap, ◌∙◌, arith, append-nil, ◌==◌, ◌&&◌, if◌then◌else◌}
use Rattle.decompiled.proofs.Common.{range_with_len, eq-eqb, Enable, Row, PinLow, Driven, Released, is_never_true, stores, Table, cell_at, Leaf, Formula, Const, Extension, Entry, Contribution, control_if_stored, control_of, is_the_control, shared_from, Context, formulas, PinLiteral, SumLine, is_control_line, line_gives, cell_lines, control_line, data_line, enable_lines, first_register, has_lines, lines_of, shared_lines, shared_formula}
use Rattle.abel_tree.specs.declared.words.Extension.TheVariants as extension
use Rattle.decompiled.proofs.OneLine.{says}
use Rattle.decompiled.proofs.PinPlaces.{same_some}
use Rattle.decompiled.proofs.CellLines.{filter_both, no_shared, none_kept}

-- the row that resets all registers, or the one that presets them
pub data Shared : Type 0 where
  Resets : Shared
  Presets : Shared

abbrev pub extension_for : Shared → Extension
extension_for Resets = extension.Ar
extension_for Presets = extension.Sp

abbrev pub row_for : Table → Shared → Option ℕ
row_for t Resets = t.reset
row_for t Presets = t.preset

module _ (t : Table) (fuses : List Bool) (signal : ℕ → ℕ) (leaf_of : PinLiteral → Leaf) (which : Shared) where
  abbrev e : Extension
  e = extension_for which

  abbrev row : Option ℕ
  row = row_for t which

  abbrev own_line : List SumLine
  own_line = shared_lines t fuses e (first_register t fuses) row

  -- ---- which lines are such controls

  -- no line of a cell is
  cell_none : (w : Shared) (s c : ℕ) → filter (is_control_line signal s (extension_for w)) (cell_lines t fuses c) ≡ []
  cell_none w s c = by_lines (has_lines t fuses c)
    where
      fails : (b : Bool) → (b && false) ≡ false
      fails true = refl
      fails false = refl

      data_fails : (w : Shared) (stored : Bool) → is_the_control (extension_for w) (if stored then Some extension.D else None) ≡ false
      data_fails Resets true = refl
      data_fails Resets false = refl
      data_fails Presets true = refl
      data_fails Presets false = refl

      enable_fails : (w : Shared) → is_the_control (extension_for w) (Some extension.Oe) ≡ false
      enable_fails Resets = refl
      enable_fails Presets = refl

      by_enable : (x : Enable) → filter (is_control_line signal s (extension_for w)) (enable_lines t fuses c x) ≡ []
      by_enable (Row r) = rw (enable_fails w) (rw (fails (signal (cell_at t c).pin == s)) refl)
      by_enable (PinLow pin) = refl
      by_enable Driven = refl
      by_enable Released = refl

      by_lines : (b : Bool) → filter (is_control_line signal s (extension_for w)) (if b then data_line t fuses c ∷ enable_lines t fuses c (cell_at t c).enable else []) ≡ []
      by_lines true = rw (data_fails w (stores t fuses c)) (rw (fails (signal (cell_at t c).pin == s)) (by_enable (cell_at t c).enable))
      by_lines false = refl

  -- so it is the shared line alone
  own_line_alone : (s : ℕ) → filter (is_control_line signal s e) (lines_of t fuses) ≡ filter (is_control_line signal s e) own_line
  own_line_alone s = by_which which
    where
      cells : List SumLine
      cells = flat_map (cell_lines t fuses) (range_with_len 0 (length t.cells))

      line : Shared → List SumLine
      line w = shared_lines t fuses (extension_for w) (first_register t fuses) (row_for t w)

      by_which : (w : Shared) → filter (is_control_line signal s (extension_for w)) (lines_of t fuses) ≡ filter (is_control_line signal s (extension_for w)) (line w)
      by_which Resets =
          filter_both (is_control_line signal s extension.Ar) (cells ++ line Resets) (line Presets)
          ∙ ap (λ (xs : List SumLine). xs ++ filter (is_control_line signal s extension.Ar) (line Presets)) (filter_both (is_control_line signal s extension.Ar) cells (line Resets))
          ∙ ap (λ (xs : List SumLine). (xs ++ filter (is_control_line signal s extension.Ar) (line Resets)) ++ filter (is_control_line signal s extension.Ar) (line Presets))
          (none_kept (is_control_line signal s extension.Ar) (cell_lines t fuses) (range_with_len 0 (length t.cells)) (λ c. cell_none Resets s c))
          ∙ ap (λ (xs : List SumLine). filter (is_control_line signal s extension.Ar) (line Resets) ++ xs) (no_shared t fuses signal s (is_the_control extension.Ar) extension.Sp (first_register t fuses) t.preset refl)
          ∙ append-nil (filter (is_control_line signal s extension.Ar) (line Resets))
      by_which Presets =
          filter_both (is_control_line signal s extension.Sp) (cells ++ line Resets) (line Presets)
          ∙ ap (λ (xs : List SumLine). xs ++ filter (is_control_line signal s extension.Sp) (line Presets)) (filter_both (is_control_line signal s extension.Sp) cells (line Resets))
          ∙ ap (λ (xs : List SumLine). (xs ++ filter (is_control_line signal s extension.Sp) (line Resets)) ++ filter (is_control_line signal s extension.Sp) (line Presets))
          (none_kept (is_control_line signal s extension.Sp) (cell_lines t fuses) (range_with_len 0 (length t.cells)) (λ c. cell_none Presets s c))
          ∙ ap (λ (xs : List SumLine). xs ++ filter (is_control_line signal s extension.Sp) (line Presets)) (no_shared t fuses signal s (is_the_control extension.Sp) extension.Ar (first_register t fuses) t.reset refl)

  -- ---- the controls of signals

  module _ (d : Context) where
    abbrev given : List (Contribution Formula)
    given = map (line_gives signal leaf_of) (lines_of t fuses)

    abbrev control : ℕ → Option Formula
    control s = control_of (formulas d) given s e

    abbrev G : Formula
    G = shared_formula t fuses leaf_of row

    -- no signal has one, and the shared function is 0
    pub record HasNone : Type 0 where
      pub none : (s : ℕ) → control s ≡ None
      pub zero_is : G ≡ Const false

    -- the first register has it, and no other signal does
    pub record HasOne (f : ℕ) : Type 0 where
      pub here : control (signal (cell_at t f).pin) ≡ Some G
      pub other : (s : ℕ) → (signal (cell_at t f).pin == s) ≡ false → control s ≡ None

    pub controls : (f : ℕ) → first_register t fuses ≡ Some f → HasNone ⊎ HasOne f
    controls f first = by_row row refl
      where
        without : own_line ≡ [] → (s : ℕ) → control s ≡ None
        without is s = (says d signal leaf_of (lines_of t fuses) s).no_control e (own_line_alone s ∙ ap (filter (is_control_line signal s e)) is)

        control_is : (w : Shared) → is_the_control (extension_for w) (Some (extension_for w)) ≡ true
        control_is Resets = refl
        control_is Presets = refl

        by_live : (r : ℕ) → row ≡ Some r → (dead : Bool) → is_never_true t fuses r ≡ dead → HasNone ⊎ HasOne f
        by_live r is true dead =
            inl (record {
              none = without (ap (shared_lines t fuses e (first_register t fuses)) is ∙ ap (λ (o : Option ℕ). shared_lines t fuses e o (Some r)) first ∙ (rw dead refl));
              zero_is = ap (shared_formula t fuses leaf_of) is ∙ (rw dead refl);
            })
        by_live r is false live =
            inr (record {
              here = (says d signal leaf_of (lines_of t fuses) (signal (cell_at t f).pin)).control e (control_line t fuses f e r) refl
                  (own_line_alone (signal (cell_at t f).pin) ∙ ap (filter (is_control_line signal (signal (cell_at t f).pin) e)) line_is ∙ (rw (eq-eqb (signal (cell_at t f).pin) (signal (cell_at t f).pin) refl) (rw (control_is which) refl)))
                  ∙ ap Some (sym (ap (shared_formula t fuses leaf_of) is));
              other = λ s apart. (says d signal leaf_of (lines_of t fuses) s).no_control e (own_line_alone s ∙ ap (filter (is_control_line signal s e)) line_is ∙ (rw apart refl));
            })
          where
            line_is : own_line ≡ control_line t fuses f e r ∷ []
            line_is = ap (shared_lines t fuses e (first_register t fuses)) is ∙ ap (λ (o : Option ℕ). shared_lines t fuses e o (Some r)) first ∙ (rw live refl)

        by_row : (o : Option ℕ) → row ≡ o → HasNone ⊎ HasOne f
        by_row None is = inl (record { none = without (ap (shared_lines t fuses e (first_register t fuses)) is ∙ no_row (first_register t fuses)); zero_is = ap (shared_formula t fuses leaf_of) is })
          where
            no_row : (o : Option ℕ) → shared_lines t fuses e o None ≡ []
            no_row None = refl
            no_row (Some c) = refl
        by_row (Some r) is = by_live r is (is_never_true t fuses r) refl

-- ---- the shared control

module _ (d : Context) (cs : List (Contribution Formula)) (e : Extension) where
  abbrev own_of_name : ℕ → Entry → Option Formula
  own_of_name s x = control_if_stored (formulas d) cs e s x

  -- none of the names has one
  pub shared_none : (s : ℕ) (xs : List Entry) → ((k : ℕ) (x : Entry) → slice_get xs k ≡ Some x → own_of_name (s + k) x ≡ None) → shared_from (formulas d) cs e s xs ≡ Const false
  shared_none s [] none = refl
  shared_none s (x ∷ xs) none =
      ap (λ (o : Option Formula). unwrap_or o (shared_from (formulas d) cs e (suc s) xs)) (ap (λ (i : ℕ). own_of_name i x) (omega arith) ∙ none 0 x refl)
      ∙ shared_none (suc s) xs (λ k y there. ap (λ (i : ℕ). own_of_name i y) (omega arith) ∙ none (suc k) y there)

  -- one has it, and each other has none or the same
  pub shared_one : (G : Formula) (s : ℕ) (xs : List Entry) (i : ℕ) (one : Entry) → slice_get xs i ≡ Some one → own_of_name (s + i) one ≡ Some G
      → ((k : ℕ) (x : Entry) → slice_get xs k ≡ Some x → (own_of_name (s + k) x ≡ None) ⊎ (own_of_name (s + k) x ≡ Some G)) → shared_from (formulas d) cs e s xs ≡ G
  shared_one G s [] i one there has each = absurd cc
  shared_one G s (x ∷ xs) i one there has each = by_first (each 0 x refl) i there has (λ j here owns. shared_one G (suc s) xs j one here owns (λ k y at. each_later k y at))
    where
      first_is : own_of_name s x ≡ own_of_name (s + 0) x
      first_is = ap (λ (j : ℕ). own_of_name j x) (omega arith)

      later_is : (k : ℕ) (y : Entry) → own_of_name (suc s + k) y ≡ own_of_name (s + suc k) y
      later_is k y = ap (λ (j : ℕ). own_of_name j y) (omega arith)

      each_later : (k : ℕ) (y : Entry) → slice_get xs k ≡ Some y → (own_of_name (suc s + k) y ≡ None) ⊎ (own_of_name (suc s + k) y ≡ Some G)
      each_later k y at = elim (each (suc k) y at) [
        | inl none ↦ inl (later_is k y ∙ none)
        | inr some ↦ inr (later_is k y ∙ some)
      ]

      by_first : (own_of_name (s + 0) x ≡ None) ⊎ (own_of_name (s + 0) x ≡ Some G) → (i : ℕ) → slice_get (x ∷ xs) i ≡ Some one → own_of_name (s + i) one ≡ Some G
          → ((j : ℕ) → slice_get xs j ≡ Some one → own_of_name (suc s + j) one ≡ Some G → shared_from (formulas d) cs e (suc s) xs ≡ G) → shared_from (formulas d) cs e s (x ∷ xs) ≡ G
      by_first (inr some) i there has later = ap (λ (o : Option Formula). unwrap_or o (shared_from (formulas d) cs e (suc s) xs)) (first_is ∙ some)
      by_first (inl none) zero there has later = absurd (none_some (sym none ∙ ap (λ (y : Entry). own_of_name (s + 0) y) (same_some x one there) ∙ has))
        where
          none_some : None ≡ Some G → ⊥
          none_some z = cc
      by_first (inl none) (suc j) there has later =
          ap (λ (o : Option Formula). unwrap_or o (shared_from (formulas d) cs e (suc s) xs)) (first_is ∙ none) ∙ later j there (later_is j one ∙ has)
