-- What a fitted cell drives, releases and stores, at a point whose nodes are valued.
use Rattle.std.proofs.Common.{◌≡◌, ◌≢◌, ℕ, ◌<◌, Bool, true, false, not, ◌&&◌, ◌||◌, if◌then◌else◌, List, [], ◌∷◌, length, map, Option, Some, None, refl, ap, sym, ◌∙◌, subst, inl, inr, IsSome, unwrap_or, ap₂}
use Rattle.netlist_laws.proofs.Common.{list_any, cases_Bool, or_left, true≢false, is_on, same_level, Levels, Carry, Enable, Row, PinLow, Driven, Released, Flip, IsDevice, data_rows, or_value, enabled_by, is_enabled, complement_if, pin_complements, data_complements, pin_level, next_q, row_if_any, stores, is_inverted, carried, columns_of, row_fuses, is_switched_on, row_is_true, row_value, Table, cell_at, no_cell, any_none, Formula, formula_value, Wanted, PlainNetlist, wanted_at, as_named, own_of, shared_function, own_or_shared, function_at, allows, registers_as, netlist_stores, enable_of, drives, may_drive, spare_level, may_store, IsValuedFor, IsValuedOfFor, IsExactRow, IsSoundShared, IsSoundCell, IsSound, or_complements, or_may_be, IsFittedEnable, IsFittedCell, IsSpareCell, IsFittedAs, IsFittedShared, AreShared, IsFitted, Kinds, Combinational, Registered, Either, stores_by}
use Rattle.pld_device.specs.declared.carry.Carry.TheVariants as carry
use Rattle.pld_device.specs.declared.flip.Flip.TheVariants.{Always, AfterRegister, BeforeRegister}
use Rattle.netlist_laws.proofs.BoolLaws.{both_ways, level_is, level_same}
use Rattle.netlist_laws.proofs.SharedFunctions.{shared_has}
use Rattle.netlist_laws.proofs.WantedCells.{sound_at, registers_wanted}
use Rattle.netlist_laws.proofs.UnusedRows.{unused_value, data_row_below}

-- ---- values of rows

-- rows read no node
pub pairs_same : (f g : Carry → Bool) (xs : List Carry) → ((x : Carry) → f x ≡ g x) → map f xs ≡ map g xs
pairs_same f g [] same = refl
pairs_same f g (x ∷ xs) same = rw (same x, pairs_same f g xs same) refl

pub carried_same : (t : Table) (fuses : List Bool) (a b : Levels) → b.pins ≡ a.pins → b.q ≡ a.q → (x : Carry) → carried t fuses a x ≡ carried t fuses b x
carried_same t fuses a b pins q (carry.Pin pin) = ap (λ xs. is_on xs pin) (sym pins)
carried_same t fuses a b pins q (carry.Cell c) =
    elim (cases_Bool (stores t fuses c)) [
      | inl kept ↦ rw kept (ap (λ xs. not (is_on xs c)) (sym q))
      | inr plain ↦ rw plain (ap (λ xs. is_on xs (cell_at t c).pin) (sym pins))
    ]

pub row_as : (t : Table) (fuses : List Bool) (net : PlainNetlist) (at valued : Levels) → IsValuedOfFor t net at valued → (row : ℕ) → row_value t fuses at row ≡ row_value t fuses valued row
row_as t fuses net at valued of row =
    ap (λ vs. is_switched_on t fuses row && row_is_true (row_fuses t fuses row) (columns_of vs)) (pairs_same (carried t fuses at) (carried t fuses valued) t.pairs (carried_same t fuses at valued of.pins of.q))

any_as : (f g : ℕ → Bool) (rows : List ℕ) → ((row : ℕ) → f row ≡ g row) → list_any f rows ≡ list_any g rows
any_as f g [] same = refl
any_as f g (row ∷ rows) same = rw (same row, any_as f g rows same) refl

or_none : (b : Bool) → (b || false) ≡ b
or_none true = refl
or_none false = refl

pub exact_value : (t : Table) (net : PlainNetlist) (fuses : List Bool) (f : Formula) (row : ℕ) (at : Levels) → IsValuedFor t net at → IsExactRow t net fuses f row → row_value t fuses at row ≡ formula_value at f
exact_value t net fuses f row at is exact =
    both_ways (row_value t fuses at row) (formula_value at f) (λ on. exact.at_allowed at is (or_left (row_value t fuses at row) false on)) (λ on. sym (or_none (row_value t fuses at row)) ∙ exact.at_needed at is on)

-- a value that is needed if it can't be false, and there only if it may be true, is one that it may have
may_have : (may : Bool → Bool) (v : Bool) → (not (may false) ≡ true → v ≡ true) → (v ≡ true → may true ≡ true) → may v ≡ true
may_have may true needed allowed = allowed refl
may_have may false needed allowed = by_cases (may false) needed
  where
    by_cases : (b : Bool) → (not b ≡ true → false ≡ true) → b ≡ true
    by_cases true need = refl
    by_cases false need = need refl

-- the OR of a fitted cell has a value that it may have
pub or_allowed : (t : Table) (net : PlainNetlist) (fuses : List Bool) (c : ℕ) (w : Wanted) (at : Levels) → IsValuedFor t net at → IsFittedCell t net fuses c w → or_may_be t fuses c w at (or_value t fuses at c) ≡ true
or_allowed t net fuses c w at is cell = may_have (or_may_be t fuses c w at) (or_value t fuses at c) (cell.rows.at_needed at is) (cell.rows.at_allowed at is)

-- ---- polarities

flips_register : (flip : Flip) (inverted buffer : Bool) → (buffer ≡ true → flip ≡ AfterRegister) → (flip ≡ AfterRegister → inverted ≡ not buffer) → pin_complements flip true inverted ≡ not buffer
flips_register Always inverted true may follows = let never : Always ≡ AfterRegister = may refl in absurd cc
flips_register Always inverted false may follows = refl
flips_register AfterRegister inverted buffer may follows = follows refl
flips_register BeforeRegister inverted true may follows = let never : BeforeRegister ≡ AfterRegister = may refl in absurd cc
flips_register BeforeRegister inverted false may follows = refl

flips_spare : (flip : Flip) (register inverted : Bool) → (flip ≢ Always → inverted ≡ true) → pin_complements flip register inverted ≡ true
flips_spare Always register inverted says = refl
flips_spare AfterRegister register inverted says = says (λ e. absurd cc)
flips_spare BeforeRegister true inverted says = refl
flips_spare BeforeRegister false inverted says = says (λ e. absurd cc)

-- what is at the output of a cell whose rows are 0
spare_output : (register q sum : Bool) → sum ≡ false → (if register then q else sum) ≡ (register && q)
spare_output true q sum off = refl
spare_output false q sum off = off

keeps_spare : (flip : Flip) (inverted : Bool) → (flip ≢ Always → inverted ≡ true) → data_complements flip inverted ≡ false
keeps_spare Always inverted says = refl
keeps_spare AfterRegister inverted says = refl
keeps_spare BeforeRegister inverted says = ap not (says (λ e. absurd cc))

module _ (t : Table) (laws : IsDevice t) (net : PlainNetlist) (sound : IsSound t net) (fuses : List Bool) (fitted : IsFitted t net fuses) (at valued : Levels) (of : IsValuedOfFor t net at valued) where
  -- ---- enables

  enable_as : (e : Enable) (found : Option Wanted) (c : ℕ) → c < length t.cells → (cell_at t c).enable ≡ e → IsFittedAs t net fuses c found → enabled_by t fuses at e ≡ drives valued found e
  enable_as (Row row) None c within is spare =
      unused_value t laws fuses fitted.size row at ((laws.cells c no_cell within).enable_below row is) (spare.enable row is)
  enable_as (Row row) (Some w) c within is cell =
      row_as t fuses net at valued of row ∙ exact_value t net fuses (enable_of w) row valued of.is_valued (subst (IsFittedEnable t net fuses (enable_of w)) is cell.enable)
  enable_as (PinLow pin) None c within is spare = ap (λ xs. not (is_on xs pin)) (sym of.pins)
  enable_as (PinLow pin) (Some w) c within is cell = ap (λ xs. not (is_on xs pin)) (sym of.pins)
  enable_as Driven None c within is spare = refl
  enable_as Driven (Some w) c within is cell = refl
  enable_as Released None c within is spare = refl
  enable_as Released (Some w) c within is cell = refl

  pub same_enable : (c : ℕ) → c < length t.cells → is_enabled t fuses at c ≡ drives valued (wanted_at net c) (cell_at t c).enable
  same_enable c within = enable_as (cell_at t c).enable (wanted_at net c) c within refl (fitted.cells c within)

  -- ---- levels

  same_or : (c : ℕ) → or_value t fuses at c ≡ or_value t fuses valued c
  same_or c = any_as (row_value t fuses at) (row_value t fuses valued) (data_rows t c) (row_as t fuses net at valued of)

  spare_or : (c : ℕ) → c < length t.cells → IsSpareCell t fuses c → or_value t fuses at c ≡ false
  spare_or c within spare = any_none (row_value t fuses at) (cell_at t c).first (cell_at t c).room (λ row low high. unused_value t laws fuses fitted.size row at (data_row_below t laws c row within (low, high)) (spare.rows row (low, high)))

  -- a spare cell is a register if it can't be anything else
  spare_stores : (c : ℕ) → IsSpareCell t fuses c → stores t fuses c ≡ stores_by (cell_at t c).kinds false
  spare_stores c spare = by_kinds (cell_at t c).kinds refl
    where
      by_kinds : (kinds : Kinds) → (cell_at t c).kinds ≡ kinds → stores t fuses c ≡ stores_by kinds false
      by_kinds Combinational is = rw is refl
      by_kinds Registered is = rw is refl
      by_kinds Either is = rw is (spare.kind is)

  -- and has the level that is a spare cell's
  spare_has : (c : ℕ) → c < length t.cells → IsSpareCell t fuses c → pin_level t fuses at c ≡ spare_level (cell_at t c).kinds (is_on valued.q c)
  spare_has c within spare =
      let kind = spare_stores c spare in
      ap (λ b. complement_if b (if stores t fuses c then is_on at.q c else or_value t fuses at c)) (flips_spare t.flip (stores t fuses c) (is_inverted t fuses c) spare.polarity)
      ∙ ap not (spare_output (stores t fuses c) (is_on at.q c) (or_value t fuses at c) (spare_or c within spare))
      ∙ ap₂ (λ b xs. not (b && is_on xs c)) kind (sym of.q)

  level_as : (c : ℕ) → c < length t.cells → (found : Option Wanted) → wanted_at net c ≡ found → IsFittedAs t net fuses c found → drives valued found (cell_at t c).enable ≡ true → may_drive valued (cell_at t c).kinds c found (pin_level t fuses at c) ≡ true
  level_as c within None is spare on =
      rw (spare_has c within spare) (level_same (spare_level (cell_at t c).kinds (is_on valued.q c)))
  level_as c within (Some w) is cell on = by_kind w.registered refl
    where
      law : IsSoundCell t net w
      law = (sound_at t net sound c w is).law

      kind : stores t fuses c ≡ w.registered
      kind = registers_wanted t net fuses sound c w is cell

      by_kind : (registered : Bool) → w.registered ≡ registered → may_drive valued (cell_at t c).kinds c (Some w) (pin_level t fuses at c) ≡ true
      by_kind true reg =
          let flips = flips_register t.flip (is_inverted t fuses c) w.buffer (law.buffer reg) (cell.polarity reg) in
          let level : pin_level t fuses at c ≡ complement_if (not w.buffer) (is_on valued.q c) = rw (kind ∙ reg, flips) (ap (λ xs. complement_if (not w.buffer) (is_on xs c)) (sym of.q)) in
          rw (reg, level) (level_same (complement_if (not w.buffer) (is_on valued.q c)))
      by_kind false reg =
          let level : pin_level t fuses at c ≡ complement_if (pin_complements t.flip false (is_inverted t fuses c)) (or_value t fuses valued c) = rw (kind ∙ reg) (ap (complement_if (pin_complements t.flip false (is_inverted t fuses c))) (same_or c)) in
          let complements : or_complements t fuses c w ≡ pin_complements t.flip false (is_inverted t fuses c) = rw reg refl in
          let ok : allows (function_at valued w.function) (as_named w (complement_if (pin_complements t.flip false (is_inverted t fuses c)) (or_value t fuses valued c))) ≡ true =
          subst (λ b. allows (function_at valued w.function) (as_named w (complement_if b (or_value t fuses valued c))) ≡ true) complements (or_allowed t net fuses c w valued of.is_valued cell) in
          let drive : may_drive valued (cell_at t c).kinds c (Some w) (pin_level t fuses at c) ≡ allows (function_at valued w.function) (as_named w (pin_level t fuses at c)) = may_drive_plain w (pin_level t fuses at c) c reg in
          drive ∙ (ap (λ v. allows (function_at valued w.function) (as_named w v)) level ∙ ok)
        where
          may_drive_plain : (x : Wanted) (v : Bool) (d : ℕ) → x.registered ≡ false → may_drive valued (cell_at t d).kinds d (Some x) v ≡ allows (function_at valued x.function) (as_named x v)
          may_drive_plain x v d plain = ap (λ b. if b then same_level v (complement_if (not x.buffer) (is_on valued.q d)) else allows (function_at valued x.function) (as_named x v)) plain

  pub level_allowed : (c : ℕ) → c < length t.cells → drives valued (wanted_at net c) (cell_at t c).enable ≡ true → (v : Bool) → same_level v (pin_level t fuses at c) ≡ true → may_drive valued (cell_at t c).kinds c (wanted_at net c) v ≡ true
  level_allowed c within on v same = subst (λ x. may_drive valued (cell_at t c).kinds c (wanted_at net c) x ≡ true) (sym (level_is v (pin_level t fuses at c) same)) (level_as c within (wanted_at net c) refl (fitted.cells c within) on)

  -- ---- next Qs

  next_as : (c : ℕ) → c < length t.cells → (found : Option Wanted) → wanted_at net c ≡ found → IsFittedAs t net fuses c found → registers_as (cell_at t c).kinds found ≡ true → may_store valued found (next_q t fuses at c) ≡ true
  next_as c within None is spare reg =
      let zero : next_q t fuses at c ≡ false = rw (keeps_spare t.flip (is_inverted t fuses c) spare.polarity) (spare_or c within spare) in
      rw zero refl
  next_as c within (Some w) is cell reg =
      let complements : or_complements t fuses c w ≡ data_complements t.flip (is_inverted t fuses c) = rw reg refl in
      let same : next_q t fuses at c ≡ complement_if (or_complements t fuses c w) (or_value t fuses valued c) =
      ap (complement_if (data_complements t.flip (is_inverted t fuses c))) (same_or c) ∙ ap (λ b. complement_if b (or_value t fuses valued c)) (sym complements) in
      subst (λ v. allows (function_at valued w.function) (as_named w v) ≡ true) (sym same) (or_allowed t net fuses c w valued of.is_valued cell)

  pub next_allowed : (c : ℕ) → c < length t.cells → netlist_stores t net c ≡ true → (v : Bool) → same_level v (next_q t fuses at c) ≡ true → may_store valued (wanted_at net c) v ≡ true
  next_allowed c within reg v same = subst (λ x. may_store valued (wanted_at net c) x ≡ true) (sym (level_is v (next_q t fuses at c) same)) (next_as c within (wanted_at net c) refl (fitted.cells c within) reg)

  -- ---- resets and presets

  module _ (own : Wanted → Option Formula) (row : Option ℕ) (sound_own : (w : Wanted) → IsSoundCell t net w → (f : Formula) → own w ≡ Some f → IsSoundShared t net w row f) (exact : IsFittedShared t net fuses (shared_function own net) row) (agree : AreShared t net own) where
    -- a cell's own function has the shared_function one's value
    own_value : (c : ℕ) (e : Option Formula) → own_of own (wanted_at net c) ≡ e → formula_value valued (unwrap_or e (shared_function own net)) ≡ formula_value valued (shared_function own net)
    own_value c None is = refl
    own_value c (Some f) is = by_wanted (wanted_at net c) refl is
      where
        by_wanted : (found : Option Wanted) → wanted_at net c ≡ found → own_of own found ≡ Some f → formula_value valued f ≡ formula_value valued (shared_function own net)
        by_wanted None here there = absurd cc
        by_wanted (Some w) here there = agree c w f here there valued of.is_valued

    -- without a row it is 0
    none_shared : row ≡ None → formula_value valued (shared_function own net) ≡ false
    none_shared none = shared_has own (λ f. formula_value valued f ≡ false) net (λ k d within f is. absurd (no_row (sound_own _ (sound.cells k d within) f is))) refl
      where
        no_row : {w : Wanted} {f : Formula} → IsSoundShared t net w row f → ⊥
        no_row s = let some = subst IsSome none s.has_one in true≢false (sym some)

    by_row : (found : Option ℕ) → row ≡ found → row_if_any t fuses at found ≡ formula_value valued (shared_function own net)
    by_row None is = sym (none_shared is)
    by_row (Some r) is = row_as t fuses net at valued of r ∙ exact_value t net fuses (shared_function own net) r valued of.is_valued (subst (IsFittedShared t net fuses (shared_function own net)) is exact)

    pub same_shared : (c : ℕ) → row_if_any t fuses at row ≡ formula_value valued (own_or_shared own net c)
    same_shared c = by_row row refl ∙ sym (own_value c (own_of own (wanted_at net c)) refl)
