-- A row has the value of its product.
use Rattle.std.proofs.Common.{◌≡◌, ◌*◌, Bool, true, false, not, List, [], ◌∷◌, ◌++◌, length, map, refl, sym, ap, ◌∙◌, arith, ◌&&◌, ◌||◌}
use Rattle.decompiled.proofs.Common.{list_all, true≢false, Levels, Carry, has_whole_pair, carried, columns_of, pair_values, row_fuses, row_is_true, is_switched_on, Table, ColumnLiteral, literal, if_intact, literals_of, row_literals, literal_value, RowsAreProducts}

module _ (t : Table) (fuses : List Bool) (at : Levels) where
  abbrev value : ColumnLiteral → Bool
  value = literal_value t fuses at

  abbrev columns : List Carry → List Bool
  columns xs = columns_of (map (carried t fuses at) xs)

  -- one fuse of a row
  one_fuse : (fuse : Bool) (l : ColumnLiteral) (ls : List ColumnLiteral) → list_all value (if_intact fuse l ++ ls) ≡ ((fuse || value l) && list_all value ls)
  one_fuse true l ls = refl
  one_fuse false l ls = refl

  -- two fuses a pair
  pub row_is : (row : List Bool) (xs : List Carry) → length row ≡ 2 * length xs → row_is_true row (columns xs) ≡ list_all value (literals_of row xs)
  row_is [] xs n = refl
  row_is (lower ∷ []) xs n = absurd (omega arith)
  row_is (lower ∷ higher ∷ row) [] n = absurd (omega arith)
  row_is (lower ∷ higher ∷ row) (x ∷ xs) n =
      let later = row_is row xs (omega arith) in
      let first = one_fuse lower (literal false x) (if_intact higher (literal true x) ++ literals_of row xs) in
      let second = one_fuse higher (literal true x) (literals_of row xs) in
      ap (λ (v : Bool). (lower || carried t fuses at x) && ((higher || not (carried t fuses at x)) && v)) later
      ∙ ap (λ (v : Bool). (lower || carried t fuses at x) && v) (sym second) ∙ sym first

  -- a pair that is connected with both columns
  whole_is_false : (row : List Bool) (xs : List Carry) → length row ≡ 2 * length xs → has_whole_pair row ≡ true → row_is_true row (columns xs) ≡ false
  whole_is_false [] xs n w = absurd (true≢false (sym w))
  whole_is_false (lower ∷ []) xs n w = absurd (omega arith)
  whole_is_false (lower ∷ higher ∷ row) [] n w = absurd (omega arith)
  whole_is_false (lower ∷ higher ∷ row) (x ∷ xs) n w = by_pair (λ e. whole_is_false row xs (omega arith) e) lower higher (carried t fuses at x) w
    where
      by_pair : (later : has_whole_pair row ≡ true → row_is_true row (columns xs) ≡ false) (a b v : Bool) → ((not a && not b) || has_whole_pair row) ≡ true → ((a || v) && ((b || not v) && row_is_true row (columns xs))) ≡ false
      by_pair later false false true e = refl
      by_pair later false false false e = refl
      by_pair later true true v e = later e
      by_pair later true false true e = refl
      by_pair later true false false e = later e
      by_pair later false true true e = later e
      by_pair later false true false e = refl

pub products : RowsAreProducts
products t fuses row laws size =
    let n : length (row_fuses t fuses row) ≡ 2 * length t.pairs = size ∙ laws.sizes.columns_even in
    record { live = by_switch (is_switched_on t fuses row) refl n; dead = never (is_switched_on t fuses row) refl n }
  where
    by_switch : (on : Bool) → is_switched_on t fuses row ≡ on → length (row_fuses t fuses row) ≡ 2 * length t.pairs
        → (not on || has_whole_pair (row_fuses t fuses row)) ≡ false → (at : Levels)
        → (on && row_is_true (row_fuses t fuses row) (columns_of (pair_values t fuses at))) ≡ list_all (literal_value t fuses at) (row_literals t fuses row)
    by_switch true e n live at = row_is t fuses at (row_fuses t fuses row) t.pairs n
    by_switch false e n live at = absurd (true≢false live)

    never : (on : Bool) → is_switched_on t fuses row ≡ on → length (row_fuses t fuses row) ≡ 2 * length t.pairs
        → (not on || has_whole_pair (row_fuses t fuses row)) ≡ true → (at : Levels)
        → (on && row_is_true (row_fuses t fuses row) (columns_of (pair_values t fuses at))) ≡ false
    never true e n dead at = whole_is_false t fuses at (row_fuses t fuses row) t.pairs n dead
    never false e n dead at = refl
