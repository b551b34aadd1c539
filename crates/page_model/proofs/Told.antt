-- What a page says of pins and cells is what the device does.
use Rattle.std.proofs.Common.{◌≡◌, ◌≢◌, ℕ, zero, suc, ◌+◌, ◌-◌, ◌*◌, ◌<◌, ◌≤◌, Bool, true, false, not, ◌&&◌, ◌||◌, if◌then◌else◌, Option, None, Some, List, [], ◌∷◌, length, drop, map, get_or, refl, ap, sym, ◌∙◌, inl, inr, arith}
use Rattle.std.specs.Prelude.{◌==◌}
use Rattle.std.proofs.lemmas.Bool.{cases_Bool, cases_lt, eqb-false, not-false, not-true, true≢false}
use Rattle.std.proofs.lemmas.List.{get_or-map, get_or_past, length-map, length-take}
use Rattle.std.specs.List.{list_any, range_with_len}
use Rattle.pld_base.specs.Bits.{is_on}
use Rattle.pld_base.specs.Points.{Levels}
use Rattle.device_logic.proofs.Runs.{any_at, any_none, one_of}
use Rattle.pld_device.proofs.RowReads.{never_true, row_same}
use Rattle.pld_device.specs.Macrocells.{complement_if, data_complements, data_rows, enabled_by, is_enabled, next_q, or_value, pin_complements, pin_level}
use Rattle.pld_device.specs.Reads.{connected_pairs, has_whole_pair, is_never_true, row_reads}
use Rattle.pld_device.specs.Registers.{is_inverted, stores}
use Rattle.pld_device.specs.RowLaws.{HasPairs}
use Rattle.pld_device.specs.Rows.{carried, columns_of, is_switched_on, pair_values, row_fuses, row_is_true, row_value}
use Rattle.pld_device.specs.Table.{Table, cell_at}
use Rattle.pld_device.specs.declared.carry.Carry.{Carry}
use Rattle.pld_device.specs.declared.carry.Carry.TheVariants as carry
use Rattle.pld_device.specs.declared.enable.Enable.{Enable}
use Rattle.pld_device.specs.declared.enable.Enable.TheVariants.{Row, PinLow, Driven, Released}
use Rattle.page_model.specs.Cells.{drives_by, drives_by_row, drives_of, reads_nothing}
use Rattle.page_model.specs.Idle.{has_live_row, idle_levels, idle_of, is_idle, is_live_row}
use Rattle.page_model.specs.LevelReads.{carries_level, is_read, reads_level, row_reads_level}
use Rattle.page_model.specs.Told.{AlikeButAt, DrivesAs, PagesTellTheDevice, TellsTheDevice, register_level}
use Rattle.page_model.specs.declared.idle.IdleLevels.{IdleLevels}

-- ---- rows that read nothing

-- with no column connected a row is true
unconnected_true : (fuses values : List Bool) → ((pair : ℕ) → is_on (connected_pairs fuses) pair ≡ false) → row_is_true fuses (columns_of values) ≡ true
unconnected_true [] values none = refl
unconnected_true (fuse ∷ fuses) [] none = refl
unconnected_true (false ∷ []) (value ∷ values) none = absurd (true≢false (none 0))
unconnected_true (true ∷ []) (value ∷ values) none = refl
unconnected_true (false ∷ higher ∷ fuses) (value ∷ values) none = absurd (true≢false (none 0))
unconnected_true (true ∷ false ∷ fuses) (value ∷ values) none = absurd (true≢false (none 0))
unconnected_true (true ∷ true ∷ fuses) (value ∷ values) none = unconnected_true fuses values (λ pair. none (suc pair))

-- past its fuses a row has no pair
past_fuses : (fuses : List Bool) (pair : ℕ) → length fuses ≤ 2 * pair → is_on (connected_pairs fuses) pair ≡ false
past_fuses [] pair long = refl
past_fuses (fuse ∷ []) zero long = absurd (omega (arith, long))
past_fuses (fuse ∷ []) (suc pair) long = refl
past_fuses (lower ∷ higher ∷ fuses) zero long = absurd (omega (arith, long))
past_fuses (lower ∷ higher ∷ fuses) (suc pair) long = past_fuses fuses pair (omega (arith, long))

-- a number of a range no number of which passes
fails_at : (test : ℕ → Bool) (first count k : ℕ) → list_any test (range_with_len first count) ≡ false → first ≤ k → k < first + count → test k ≡ false
fails_at test first count k none low high =
    elim (cases_Bool (test k)) [
      | inl on ↦ absurd (true≢false (sym (any_at test first count k low high on) ∙ none))
      | inr off ↦ off
    ]

complement_false : (b : Bool) → complement_if b false ≡ b
complement_false true = refl
complement_false false = refl

is_then : {A : Type 0} (b : Bool) (x y : A) → (if b then Some x else None) ≡ Some y → (b ≡ true) × (x ≡ y)
is_then true x y is = (refl, some_same x y is)
  where
    some_same : {A : Type 0} (x y : A) → Some x ≡ Some y → x ≡ y
    some_same x y is = cc
is_then false x y is = absurd cc

first_of : (a b : Bool) → (not a && b) ≡ true → a ≡ false
first_of true b is = absurd (true≢false (sym is))
first_of false b is = refl

module _ (t : Table) (fuses : List Bool) (wide : HasPairs t) where
  fuses_fit : (row : ℕ) → length (row_fuses t fuses row) ≤ t.columns
  fuses_fit row = omega (arith, length-take (t.columns * row + t.columns - t.columns * row) (drop (t.columns * row) fuses))

  switched : (row : ℕ) → is_never_true t fuses row ≡ false → is_switched_on t fuses row ≡ true
  switched row live = on (is_switched_on t fuses row) (has_whole_pair (row_fuses t fuses row)) live
    where
      on : (a b : Bool) → (not a || b) ≡ false → a ≡ true
      on true b is = refl
      on false b is = absurd (true≢false is)

  -- a live row that reads nothing is true at each point
  nothing_true : (at : Levels) (row : ℕ) → is_never_true t fuses row ≡ false → reads_nothing t fuses row ≡ true → row_value t fuses at row ≡ true
  nothing_true at row live nothing =
      rw (switched row live) (unconnected_true (row_fuses t fuses row) (pair_values t fuses at) none)
    where
      none : (pair : ℕ) → is_on (connected_pairs (row_fuses t fuses row)) pair ≡ false
      none pair =
          elim (cases_lt pair (length t.pairs)) [
            | inl low ↦
                let off : row_reads t fuses row pair ≡ false = fails_at (row_reads t fuses row) 0 (length t.pairs) pair (not-true _ nothing) (omega arith) (omega (arith, low)) in
                rw live at off
            | inr high ↦ past_fuses (row_fuses t fuses row) pair (omega (arith, high, fuses_fit row, wide))
          ]

  drives : (at : Levels) (c : ℕ) → DrivesAs t fuses at (is_enabled t fuses at c) (drives_of t fuses c)
  drives at c = by_enable (cell_at t c).enable
    where
      by_row : (row : ℕ) (never nothing : Bool) → is_never_true t fuses row ≡ never → reads_nothing t fuses row ≡ nothing → DrivesAs t fuses at (row_value t fuses at row) (drives_by_row never nothing row)
      by_row row true nothing is reads = never_true t fuses row at wide is
      by_row row false true live reads = nothing_true at row live reads
      by_row row false false live reads = refl

      by_enable : (e : Enable) → DrivesAs t fuses at (enabled_by t fuses at e) (drives_by t fuses e)
      by_enable (Row row) = by_row row (is_never_true t fuses row) (reads_nothing t fuses row) refl refl
      by_enable (PinLow pin) = refl
      by_enable Driven = refl
      by_enable Released = refl

  -- what a pair carries that isn't the pin's level is the same at points that differ in this level alone
  carried_same : (pin : ℕ) (a b : Levels) (x : Carry) → AlikeButAt pin a b → carries_level t fuses pin x ≡ false → carried t fuses a x ≡ carried t fuses b x
  carried_same pin a b (carry.Pin other) alike apart = alike.pins other (eqb-false other pin apart)
  carried_same pin a b (carry.Cell c) alike apart =
      by_kind (stores t fuses c) apart
    where
      by_kind : (s : Bool) → (not s && ((cell_at t c).pin == pin)) ≡ false → (if s then not (is_on a.q c) else is_on a.pins (cell_at t c).pin) ≡ (if s then not (is_on b.q c) else is_on b.pins (cell_at t c).pin)
      by_kind true off = ap (λ (q : List Bool). not (is_on q c)) alike.q
      by_kind false off = alike.pins (cell_at t c).pin (eqb-false (cell_at t c).pin pin off)

  reads : (pin row : ℕ) (a b : Levels) → row < t.rows → is_read t fuses pin ≡ false → AlikeButAt pin a b → row_value t fuses a row ≡ row_value t fuses b row
  reads pin row a b within unread alike = row_same t fuses row a b wide same
    where
      row_off : row_reads_level t fuses pin row ≡ false
      row_off = fails_at (row_reads_level t fuses pin) 0 t.rows row unread (omega arith) (omega (arith, within))

      same : (pair : ℕ) → row_reads t fuses row pair ≡ true → is_on (pair_values t fuses a) pair ≡ is_on (pair_values t fuses b) pair
      same pair read =
          elim (cases_lt pair (length t.pairs)) [
            | inl low ↦
                let off : reads_level t fuses pin row pair ≡ false = fails_at (reads_level t fuses pin row) 0 (length t.pairs) pair row_off (omega arith) (omega (arith, low)) in
                let apart : carries_level t fuses pin (get_or t.pairs pair (carry.Pin 0)) ≡ false = rw read at off in
                get_or-map (carried t fuses a) t.pairs pair (carry.Pin 0) false low
                ∙ (carried_same pin a b (get_or t.pairs pair (carry.Pin 0)) alike apart
                ∙ sym (get_or-map (carried t fuses b) t.pairs pair (carry.Pin 0) false low))
            | inr high ↦
                get_or_past (map (carried t fuses a) t.pairs) pair false (omega (arith, high, length-map t.pairs (carried t fuses a)))
                ∙ sym (get_or_past (map (carried t fuses b) t.pairs) pair false (omega (arith, high, length-map t.pairs (carried t fuses b))))
          ]

  -- no row of an idle cell is true
  none_true : (at : Levels) (c : ℕ) → is_idle t fuses c ≡ true → or_value t fuses at c ≡ false
  none_true at c idle =
      any_none (row_value t fuses at) (cell_at t c).first (cell_at t c).room
      (λ k low high. never_true t fuses k at wide (not-false _ (fails_at (is_live_row t fuses) (cell_at t c).first (cell_at t c).room k (first_of _ _ idle) low high)))

  gates : (at : Levels) (c : ℕ) (idle : IdleLevels) → stores t fuses c ≡ false → idle_levels t fuses c ≡ Some idle → pin_level t fuses at c ≡ idle.first
  gates at c idle gate is =
      let parts = is_then (is_idle t fuses c) (idle_of t.flip (stores t fuses c) (is_inverted t fuses c)) idle is in
      rw (← parts.1) (rw (gate, none_true at c parts.0) (complement_false (pin_complements t.flip false (is_inverted t fuses c))))

  power_up : (c : ℕ) (idle : IdleLevels) → stores t fuses c ≡ true → idle_levels t fuses c ≡ Some idle → register_level t fuses c false ≡ idle.first
  power_up c idle register is =
      let parts = is_then (is_idle t fuses c) (idle_of t.flip (stores t fuses c) (is_inverted t fuses c)) idle is in
      rw (← parts.1) (rw register (complement_false (pin_complements t.flip true (is_inverted t fuses c))))

  clocked : (at : Levels) (c : ℕ) (idle : IdleLevels) → stores t fuses c ≡ true → idle_levels t fuses c ≡ Some idle → register_level t fuses c (next_q t fuses at c) ≡ idle.later
  clocked at c idle register is =
      let parts = is_then (is_idle t fuses c) (idle_of t.flip (stores t fuses c) (is_inverted t fuses c)) idle is in
      rw (← parts.1)
      (rw (register, none_true at c parts.0)
      (ap (complement_if (pin_complements t.flip true (is_inverted t fuses c))) (complement_false (data_complements t.flip (is_inverted t fuses c)))))

pub pages_tell_the_device : PagesTellTheDevice
pages_tell_the_device t fuses wide = record {
  drives = drives t fuses wide;
  reads = reads t fuses wide;
  gates = gates t fuses wide;
  power_up = power_up t fuses wide;
  clocked = clocked t fuses wide;
}
