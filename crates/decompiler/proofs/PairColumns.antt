-- The literals of a decompiled source: each is the column of a pair that the device has.
use Rattle.std.proofs.Common.{◌≡◌, ℕ, Bool, true, false, if◌then◌else◌, List, [], ◌∷◌, ◌++◌, map, refl, sym, subst}
use Rattle.decompiler.proofs.Common.{AllByRecursion, list_any, Carry, IsPair, IsDevice, is_never_true, row_fuses, Table, PinLiteral, SumLine, ColumnLiteral, if_intact, literal, literals_of, row_literals, control_products, live_rows, named, named_by, product_of, each_always, each_append, each_at, each_map, each_member, each_weaker}
use Rattle.decompiler.proofs.OwnLines.{IsForm, IsOwnLine, LineForm, DataForm, EnableForm, ResetForm, PresetForm}

-- what passes it, some pair passes
abbrev pub IsAmong : List Carry → Carry → Type 0
IsAmong xs x = (test : Carry → Bool) → test x ≡ true → list_any test xs ≡ true

module _ (P : Carry → Type 0) where
  abbrev IsOfPair : ColumnLiteral → Type 0
  IsOfPair l = P l.pair

  intact : (fuse : Bool) (l : ColumnLiteral) → IsOfPair l → AllByRecursion IsOfPair (if_intact fuse l)
  intact true l is = tt
  intact false l is = (is, tt)

  -- what holds of all pairs holds of those of a row's literals
  pub columns_hold : (fs : List Bool) (xs : List Carry) → AllByRecursion P xs → AllByRecursion IsOfPair (literals_of fs xs)
  columns_hold [] xs all = tt
  columns_hold (a ∷ []) xs all = tt
  columns_hold (a ∷ b ∷ fs) [] all = tt
  columns_hold (a ∷ b ∷ fs) (x ∷ xs) all =
      each_append IsOfPair (if_intact a (literal false x)) (if_intact b (literal true x) ++ literals_of fs xs) (intact a (literal false x) all.0)
      (each_append IsOfPair (if_intact b (literal true x)) (literals_of fs xs) (intact b (literal true x) all.0) (columns_hold fs xs all.1))

module _ (t : Table) (fuses : List Bool) where
  -- a pair of the device
  pub record IsDevicePair (x : Carry) : Type 0 where
    pub law : IsPair t x
    pub among : IsAmong t.pairs x

  -- a column of a pair of the device, by its name
  pub record IsColumn (l : PinLiteral) : Type 0 where
    pub higher : Bool
    pub pair : Carry
    pub of : IsDevicePair pair
    pub is : l ≡ named_by t fuses higher pair

  module _ (laws : IsDevice t) where
    pairs_are : AllByRecursion IsDevicePair t.pairs
    pairs_are = both t.pairs (each_at (IsPair t) t.pairs laws.pairs) (each_member (IsAmong t.pairs) t.pairs (λ x member. member))
      where
        both : (xs : List Carry) → AllByRecursion (IsPair t) xs → AllByRecursion (IsAmong t.pairs) xs → AllByRecursion IsDevicePair xs
        both [] law among = tt
        both (x ∷ xs) law among = (record { law = law.0; among = among.0 }, both xs law.1 among.1)

    -- each literal of a row is of such a pair
    pub row_pairs : (row : ℕ) → AllByRecursion (λ (l : ColumnLiteral). IsDevicePair l.pair) (row_literals t fuses row)
    row_pairs row = columns_hold IsDevicePair (row_fuses t fuses row) t.pairs pairs_are

    row_columns : (row : ℕ) → AllByRecursion IsColumn (product_of t fuses row)
    row_columns row =
        each_map IsColumn (named t fuses) (row_literals t fuses row)
        (
        each_weaker (λ (l : ColumnLiteral). IsDevicePair l.pair) (λ (l : ColumnLiteral). IsColumn (named t fuses l))
        (λ l of. record { higher = l.higher; pair = l.pair; of = of; is = refl }) (row_literals t fuses row) (row_pairs row)
        )

    abbrev pub AreColumns : List (List PinLiteral) → Type 0
    AreColumns ps = AllByRecursion (AllByRecursion IsColumn) ps

    data_columns : (rows : List ℕ) → AreColumns (map (product_of t fuses) rows)
    data_columns rows =
        each_map (AllByRecursion IsColumn) (product_of t fuses) rows (each_always (λ row. AllByRecursion IsColumn (product_of t fuses row)) row_columns rows)

    control_columns : (row : ℕ) → AreColumns (control_products t fuses row)
    control_columns row = by_test (is_never_true t fuses row)
      where
        by_test : (dead : Bool) → AreColumns (if dead then [] else product_of t fuses row ∷ [])
        by_test true = tt
        by_test false = (row_columns row, tt)

    -- so it is of each literal of a line
    pub line_columns : (l : SumLine) → IsOwnLine t fuses l → AreColumns l.products
    line_columns l own = by_form own.form own.is
      where
        by_form : (form : LineForm) → IsForm t fuses form own.cell l → AreColumns l.products
        by_form DataForm is = subst (λ (k : SumLine). AreColumns k.products) (sym is) (data_columns (live_rows t fuses own.cell))
        by_form EnableForm is = subst (λ (k : SumLine). AreColumns k.products) (sym is.2) (control_columns is.0)
        by_form ResetForm is = subst (λ (k : SumLine). AreColumns k.products) (sym is.3) (control_columns is.0)
        by_form PresetForm is = subst (λ (k : SumLine). AreColumns k.products) (sym is.3) (control_columns is.0)
