-- Masks that are gathered until two devices answer the same if none of them holds.
use Rattle.std.proofs.Common.{◌≡◌, ℕ, ◌+◌, ◌<◌, ◌≤◌, Bool, true, false, ◌||◌, List, [], ◌∷◌, ◌++◌, length, refl, ap, sym, ◌∙◌, subst, inl, inr, arith}
use Rattle.fuse_compare.proofs.Common.{cases_lt, or_parts, true≢false, IsPoint, Levels, is_enabled, or_value, row_if_any, row_value, Table, one_of, device_lookups, IsMask, holds, RowMask, DifferWithin, some_holds, AreOwn, CoveredOutside, Covers, HoldsMore, MakesCell, MakesSame, SameCell, SameKind, SameOutside, some_row, Group}

-- ---- one mask more

more_masks : (own : List RowMask) (mask : RowMask) (at : Levels) → some_holds (own ++ mask ∷ []) at ≡ (some_holds own at || holds mask at)
more_masks [] mask at = at_end (holds mask at)
  where
    at_end : (x : Bool) → (x || false) ≡ x
    at_end true = refl
    at_end false = refl
more_masks (first ∷ own) mask at = ap (λ x. holds first at || x) (more_masks own mask at) ∙ grouped (holds first at) (some_holds own at) (holds mask at)
  where
    grouped : (x y z : Bool) → (x || (y || z)) ≡ ((x || y) || z)
    grouped true y z = refl
    grouped false y z = refl

pub none_of : (own : List RowMask) (mask : RowMask) (at : Levels) → some_holds (own ++ mask ∷ []) at ≡ false → (some_holds own at ≡ false) × (holds mask at ≡ false)
none_of own mask at none = or_parts (some_holds own at) (holds mask at) (sym (more_masks own mask at) ∙ none)

-- ---- the rows of a group, one after another

-- the rows so far are covered by the other device's group, if no mask holds
pub record CoversBelow (t : Table) (a b : List Bool) (rows : Group) (row : ℕ) (own more : List RowMask) : Type 0 where
  pub longer : HoldsMore own more
  pub each : (k : ℕ) → rows.first ≤ k → k < row → CoveredOutside more (λ at. row_value t a at k) (some_row t b rows)

pub covers_none : (t : Table) (a b : List Bool) (rows : Group) (own : List RowMask) → CoversBelow t a b rows rows.first own own
covers_none t a b rows own = record { longer = λ at none. none; each = λ k first below. absurd (omega (arith, first, below)) }

module _ (t : Table) (a b : List Bool) (rows : Group) (row : ℕ) (own more : List RowMask) (below : CoversBelow t a b rows row own more) where
  -- a row whose mask is taken
  pub covers_taken : (mask : RowMask) → IsMask t a row mask → CoversBelow t a b rows (row + 1) own (more ++ mask ∷ [])
  covers_taken mask is = record {
    longer = λ at none. below.longer at (none_of more mask at none).0;
    each = λ k first low at point none on. elim (cases_lt k row) [
      | inl earlier ↦ below.each k first earlier at point (none_of more mask at none).0 on
      | inr last ↦
          let same : k ≡ row = omega (arith, low, last) in
          absurd (true≢false (sym (subst (λ n. row_value t a at n ≡ true) same on) ∙ (sym (is at point) ∙ (none_of more mask at none).1)))
    ];
  }

  -- a row that the other device's group covers
  pub covers_passed : ((at : Levels) → IsPoint at → row_value t a at row ≡ true → some_row t b rows at ≡ true) → CoversBelow t a b rows (row + 1) own more
  covers_passed covered = record {
    longer = below.longer;
    each = λ k first low at point none on. elim (cases_lt k row) [
      | inl earlier ↦ below.each k first earlier at point none on
      | inr last ↦
          let same : k ≡ row = omega (arith, low, last) in
          covered at point (subst (λ n. row_value t a at n ≡ true) same on)
    ];
  }

pub covers_all : (t : Table) (a b : List Bool) (rows : Group) (end : ℕ) (own more : List RowMask) → end ≡ rows.first + rows.room → CoversBelow t a b rows end own more → Covers t a b rows own more
covers_all t a b rows end own more at_end below = record {
  longer = below.longer;
  covered = λ at point none on.
      let found = one_of (row_value t a at) rows.first rows.room on in
      below.each found.0 found.1 (omega (arith, found.2, at_end)) at point none found.3;
}

-- ---- both ways

both_ways : (x y : Bool) → (x ≡ true → y ≡ true) → (y ≡ true → x ≡ true) → x ≡ y
both_ways true y there back = sym (there refl)
both_ways false true there back = back refl
both_ways false false there back = refl

pub covers_both : (t : Table) (a b : List Bool) (rows : Group) (own mid more : List RowMask) → Covers t a b rows own mid → Covers t b a rows mid more
    → MakesSame (some_row t a rows) (some_row t b rows) own more
covers_both t a b rows own mid more there back = record {
  longer = λ at none. there.longer at (back.longer at none);
  same = λ at point none. both_ways (some_row t a rows at) (some_row t b rows at) (there.covered at point (back.longer at none)) (back.covered at point none);
}

-- ---- more masks, and what is the same already

pub longer_both : (own mid more : List RowMask) → HoldsMore own mid → HoldsMore mid more → HoldsMore own more
longer_both own mid more first second at none = first at (second at none)

pub same_longer : (own more : List RowMask) (test other : Levels → Bool) → HoldsMore own more → SameOutside own test other → SameOutside more test other
same_longer own more test other longer same at point none = same at point (longer at none)

pub cell_longer : (t : Table) (a b : List Bool) (c : ℕ) (own more : List RowMask) → HoldsMore own more → SameCell t a b own c → SameCell t a b more c
cell_longer t a b c own more longer cell = record {
  enable = same_longer own more (λ at. is_enabled t a at c) (λ at. is_enabled t b at c) longer cell.enable;
  any_row = same_longer own more (λ at. or_value t a at c) (λ at. or_value t b at c) longer cell.any_row;
}

pub makes_cell : (t : Table) (a b : List Bool) (c : ℕ) (own mid more : List RowMask) → MakesSame (λ at. is_enabled t a at c) (λ at. is_enabled t b at c) own mid
    → MakesSame (λ at. or_value t a at c) (λ at. or_value t b at c) mid more → MakesCell t a b c own more
makes_cell t a b c own mid more enable any_row = record {
  longer = longer_both own mid more enable.longer any_row.longer;
  cell = record {
    enable = same_longer mid more (λ at. is_enabled t a at c) (λ at. is_enabled t b at c) any_row.longer enable.same;
    any_row = any_row.same;
  };
}

-- a group of one row
pub one_row : (t : Table) (a b : List Bool) (row : ℕ) (own more : List RowMask)
    → MakesSame (some_row t a (record { first = row; room = 1 })) (some_row t b (record { first = row; room = 1 })) own more
    → MakesSame (λ at. row_value t a at row) (λ at. row_value t b at row) own more
one_row t a b row own more makes = record {
  longer = makes.longer;
  same = λ at point none. sym (at_end (row_value t a at row)) ∙ (makes.same at point none ∙ at_end (row_value t b at row));
}
  where
    at_end : (x : Bool) → (x || false) ≡ x
    at_end true = refl
    at_end false = refl

-- nothing to be made the same
pub makes_none : (test : Levels → Bool) (own : List RowMask) → MakesSame test test own own
makes_none test own = record { longer = λ at none. none; same = λ at point none. refl }

-- ---- all rows

pub all_own : (t : Table) (a b : List Bool) (own mid more : List RowMask) → ((c : ℕ) → c < length t.cells → SameCell t a b own c)
    → MakesSame (λ at. row_if_any t a at t.reset) (λ at. row_if_any t b at t.reset) own mid
    → MakesSame (λ at. row_if_any t a at t.preset) (λ at. row_if_any t b at t.preset) mid more → AreOwn t a b more
all_own t a b own mid more cells reset preset = record {
  cells = λ c within. cell_longer t a b c own more (longer_both own mid more reset.longer preset.longer) (cells c within);
  reset = same_longer mid more (λ at. row_if_any t a at t.reset) (λ at. row_if_any t b at t.reset) preset.longer reset.same;
  preset = preset.same;
}

-- with the same kinds, the two answer the same outside these masks
pub within_own : (t : Table) (a b : List Bool) (first second : List ℕ) (own : List RowMask) → ((c : ℕ) → c < length t.cells → SameKind t a b c) → AreOwn t a b own
    → DifferWithin (device_lookups t a first) (device_lookups t b second) own
within_own t a b first second own kinds are at point none = record {
  stores = λ c within. (kinds c within).0;
  enable = λ c within. (are.cells c within).enable at point none;
  level = λ c within. rw ((kinds c within).0, (kinds c within).1, (are.cells c within).any_row at point none) refl;
  reset = λ c within. are.reset at point none;
  preset = λ c within. are.preset at point none;
  next = λ c within. rw ((kinds c within).1, (are.cells c within).any_row at point none) refl;
}
