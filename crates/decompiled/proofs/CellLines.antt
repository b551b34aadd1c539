-- The lines of a cell's signal are found at the cell alone.
use Rattle.std.proofs.Common.{◌≡◌, ℕ, zero, suc, ◌+◌, ◌<◌, ◌≤◌, inl, inr, Bool, true, false, Option, None, Some, List, [], ◌∷◌, ◌++◌, length, filter, flat_map, refl, ap, ◌∙◌, arith, append-nil, eqb-true, eq-eqb, ◌==◌, ◌&&◌, if◌then◌else◌}
use Rattle.decompiled.proofs.Common.{range_with_len, cases_Bool, cases_lt, Enable, Row, PinLow, Driven, Released, is_never_true, stores, Table, cell_at, Extension, is_data, is_the_control, SumLine, is_data_line, is_control_line, cell_lines, lines_of, control_line, data_line, enable_lines, first_register, has_lines, shared_lines, IsOwnSignal, CellsHaveTheirLines}
use Rattle.abel_tree.specs.declared.words.Extension.TheVariants as extension

-- ---- lists

pub filter_both : (test : SumLine → Bool) (xs ys : List SumLine) → filter test (xs ++ ys) ≡ filter test xs ++ filter test ys
filter_both test [] ys = refl
filter_both test (x ∷ xs) ys = elim (cases_Bool (test x)) [
  | inl e ↦ rw e (ap (λ (zs : List SumLine). x ∷ zs) (filter_both test xs ys))
  | inr e ↦ rw e (filter_both test xs ys)
]

-- none of the numbers of a range is kept
pub none_kept : (test : SumLine → Bool) (f : ℕ → List SumLine) (ns : List ℕ) → ((d : ℕ) → filter test (f d) ≡ []) → filter test (flat_map f ns) ≡ []
none_kept test f [] none = refl
none_kept test f (n ∷ ns) none = filter_both test (f n) (flat_map f ns) ∙ ap (λ (xs : List SumLine). xs ++ filter test (flat_map f ns)) (none n) ∙ none_kept test f ns none

-- one number of a range alone is kept
one_kept : (test : SumLine → Bool) (f : ℕ → List SumLine) (c : ℕ) (n first : ℕ) → first ≤ c → c < first + n
    → ((d : ℕ) → first ≤ d → d < first + n → (d ≡ c → ⊥) → filter test (f d) ≡ [])
    → filter test (flat_map f (range_with_len first n)) ≡ filter test (f c)
one_kept test f c zero first low high others = absurd (omega arith)
one_kept test f c (suc n) first low high others = elim (cases_lt first c) [
  | inl before ↦
      filter_both test (f first) (flat_map f (range_with_len (first + 1) n))
      ∙ ap (λ (xs : List SumLine). xs ++ filter test (flat_map f (range_with_len (first + 1) n))) (others first (omega arith) (omega arith) (λ e. omega (arith, e, before)))
      ∙ one_kept test f c n (first + 1) (omega arith) (omega arith) (λ d l h. others d (omega arith) (omega arith))
  | inr not_before ↦
      let same : first ≡ c = omega arith in
      filter_both test (f first) (flat_map f (range_with_len (first + 1) n))
      ∙ ap (λ (xs : List SumLine). filter test (f first) ++ xs) (past n (first + 1) (omega (arith, same)) (λ d l h. others d (omega arith) (omega arith) (λ e. omega (arith, e, same))))
      ∙ append-nil (filter test (f first)) ∙ ap (λ (i : ℕ). filter test (f i)) same
]
  where
    past : (n first : ℕ) → c < first → ((d : ℕ) → first ≤ d → d < first + n → filter test (f d) ≡ []) → filter test (flat_map f (range_with_len first n)) ≡ []
    past zero first lt none = refl
    past (suc n) first lt none =
        filter_both test (f first) (flat_map f (range_with_len (first + 1) n))
        ∙ ap (λ (xs : List SumLine). xs ++ filter test (flat_map f (range_with_len (first + 1) n))) (none first (omega arith) (omega arith))
        ∙ past n (first + 1) (omega arith) (λ d l h. none d (omega arith) (omega arith))

and_left : (a b : Bool) → a ≡ false → (a && b) ≡ false
and_left false b e = refl
and_left true b e = absurd cc

-- ---- lines

module _ (t : Table) (fuses : List Bool) (signal_of : ℕ → ℕ) where
  -- a test of lines that asks the signal of the pin, and something of the extension
  abbrev asks : (s : ℕ) → (Option Extension → Bool) → SumLine → Bool
  asks s test l = signal_of l.pin == s && test l.extension

  -- a cell of another signal has no such line
  other_cell : (s : ℕ) (test : Option Extension → Bool) (d : ℕ) → (signal_of (cell_at t d).pin == s) ≡ false → filter (asks s test) (cell_lines t fuses d) ≡ []
  other_cell s test d other = by_lines (has_lines t fuses d)
    where
      by_enable : (e : Enable) → filter (asks s test) (enable_lines t fuses d e) ≡ []
      by_enable (Row row) = rw other refl
      by_enable (PinLow pin) = refl
      by_enable Driven = refl
      by_enable Released = refl

      by_lines : (b : Bool) → filter (asks s test) (if b then data_line t fuses d ∷ enable_lines t fuses d (cell_at t d).enable else []) ≡ []
      by_lines true = rw other (by_enable (cell_at t d).enable)
      by_lines false = refl

  -- shared lines pass no test of another extension
  pub no_shared : (s : ℕ) (test : Option Extension → Bool) (e : Extension) (c row : Option ℕ) → test (Some e) ≡ false → filter (asks s test) (shared_lines t fuses e c row) ≡ []
  no_shared s test e None row no_test = refl
  no_shared s test e (Some c) None no_test = refl
  no_shared s test e (Some c) (Some row) no_test = by_row (is_never_true t fuses row)
    where
      fails : (a : Bool) → (a && test (Some e)) ≡ false
      fails true = no_test
      fails false = refl

      by_row : (b : Bool) → filter (asks s test) (if b then [] else control_line t fuses c e row ∷ []) ≡ []
      by_row true = refl
      by_row false = rw (fails (signal_of (cell_at t c).pin == s)) refl

  -- so the lines of a cell's signal are the cell's
  module _ (c : ℕ) (within : c < length t.cells) (own : IsOwnSignal t signal_of c) (test : Option Extension → Bool)
      (no_reset : test (Some extension.Ar) ≡ false) (no_preset : test (Some extension.Sp) ≡ false) where
    abbrev s : ℕ
    s = signal_of (cell_at t c).pin

    apart : (d : ℕ) → d < length t.cells → (d ≡ c → ⊥) → (signal_of (cell_at t d).pin == s) ≡ false
    apart d lt other = elim (cases_Bool (signal_of (cell_at t d).pin == s)) [
      | inl e ↦ absurd (other (own d lt (eqb-true (signal_of (cell_at t d).pin) s e)))
      | inr e ↦ e
    ]

    pub own_lines : filter (asks s test) (lines_of t fuses) ≡ filter (asks s test) (cell_lines t fuses c)
    own_lines =
        let cells : List SumLine = flat_map (cell_lines t fuses) (range_with_len 0 (length t.cells)) in
        let resets : List SumLine = shared_lines t fuses extension.Ar (first_register t fuses) t.reset in
        let presets : List SumLine = shared_lines t fuses extension.Sp (first_register t fuses) t.preset in
        let kept = one_kept (asks s test) (cell_lines t fuses) c (length t.cells) 0 (omega arith) (omega (arith, within))
        (λ d l h other. other_cell s test d (apart d (omega (arith, h)) other)) in
        filter_both (asks s test) (cells ++ resets) presets
        ∙ ap (λ (xs : List SumLine). xs ++ filter (asks s test) presets) (filter_both (asks s test) cells resets)
        ∙ ap (λ (xs : List SumLine). (xs ++ filter (asks s test) resets) ++ filter (asks s test) presets) kept
        ∙ ap (λ (xs : List SumLine). (filter (asks s test) (cell_lines t fuses c) ++ xs) ++ filter (asks s test) presets) (no_shared s test extension.Ar (first_register t fuses) t.reset no_reset)
        ∙ ap (λ (xs : List SumLine). (filter (asks s test) (cell_lines t fuses c) ++ []) ++ xs) (no_shared s test extension.Sp (first_register t fuses) t.preset no_preset)
        ∙ append-nil (filter (asks s test) (cell_lines t fuses c) ++ []) ∙ append-nil (filter (asks s test) (cell_lines t fuses c))

-- ---- of the cell itself

module _ (t : Table) (fuses : List Bool) (signal_of : ℕ → ℕ) (c : ℕ) where
  abbrev own_signal : ℕ
  own_signal = signal_of (cell_at t c).pin

  same : (own_signal == own_signal) ≡ true
  same = eq-eqb own_signal own_signal refl

  is_data_extension : (stored : Bool) → is_data (if stored then Some extension.D else None) ≡ true
  is_data_extension true = refl
  is_data_extension false = refl

  no_control_extension : (stored : Bool) → is_the_control extension.Oe (if stored then Some extension.D else None) ≡ false
  no_control_extension true = refl
  no_control_extension false = refl

  enable_is_no_data : (e : Enable) → filter (is_data_line signal_of own_signal) (enable_lines t fuses c e) ≡ []
  enable_is_no_data (Row row) = rw same refl
  enable_is_no_data (PinLow pin) = refl
  enable_is_no_data Driven = refl
  enable_is_no_data Released = refl

  enable_is_enable : (e : Enable) → filter (is_control_line signal_of own_signal extension.Oe) (enable_lines t fuses c e) ≡ enable_lines t fuses c e
  enable_is_enable (Row row) = rw same refl
  enable_is_enable (PinLow pin) = refl
  enable_is_enable Driven = refl
  enable_is_enable Released = refl

  data_of_cell : (b : Bool) → filter (is_data_line signal_of own_signal) (if b then data_line t fuses c ∷ enable_lines t fuses c (cell_at t c).enable else [])
      ≡ (if b then data_line t fuses c ∷ [] else [])
  data_of_cell true = rw same (rw (is_data_extension (stores t fuses c)) (ap (λ (xs : List SumLine). data_line t fuses c ∷ xs) (enable_is_no_data (cell_at t c).enable)))
  data_of_cell false = refl

  enable_of_cell : (b : Bool) → filter (is_control_line signal_of own_signal extension.Oe) (if b then data_line t fuses c ∷ enable_lines t fuses c (cell_at t c).enable else [])
      ≡ (if b then enable_lines t fuses c (cell_at t c).enable else [])
  enable_of_cell true = rw same (rw (no_control_extension (stores t fuses c)) (enable_is_enable (cell_at t c).enable))
  enable_of_cell false = refl

pub have : CellsHaveTheirLines
have t fuses signal_of c within own =
    record {
      data_is = own_lines t fuses signal_of c within own is_data refl refl ∙ data_of_cell t fuses signal_of c (has_lines t fuses c);
      enable_is = own_lines t fuses signal_of c within own (is_the_control extension.Oe) refl refl ∙ enable_of_cell t fuses signal_of c (has_lines t fuses c);
    }
