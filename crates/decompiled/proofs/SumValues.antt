-- A printed sum has the value of its rows.
use Rattle.std.proofs.Common.{◌≡◌, ℕ, ◌<◌, inl, inr, Bool, true, false, not, List, [], ◌∷◌, filter, map, refl, sym, ap, ◌∙◌, arith, ◌&&◌, ◌||◌, if◌then◌else◌, fold}
use Rattle.decompiled.proofs.Common.{AllByRecursion, list_all, list_any, cases_Bool, is_on, Levels, Carry, IsDevice, complement_if, data_rows, is_never_true, stores, row_value, Table, cell_at, no_cell, Leaf, make_and, make_or, Formula, Not, formula_value, leaf_value, ColumnLiteral, literal, literal_value, row_literals, PinLiteral, literal_formula, product_formula, sum_formula, live_rows, named, product_of, HasRowSizes, ReadsPairs, SumsHaveRows}
use Rattle.pld_device.specs.declared.carry.Carry.TheVariants as carry
use Rattle.bit_expr.specs.declared.node.Leaf.TheVariants as leaf
use Rattle.bit_expr.specs.Formulas.{Read}
use Rattle.bit_expr.proofs.FoldingValues.{and_value, or_value as sum_value}
use Rattle.decompiled.proofs.Each.{each_in_range}
use Rattle.decompiled.proofs.RowValues.{products}

-- ---- folds

all_from : {A : Type 0} (test : A → Bool) (first : Bool) (xs : List A) → fold (λ b x. b && test x) first xs ≡ (first && list_all test xs)
all_from test true [] = refl
all_from test false [] = refl
all_from test true (x ∷ xs) = all_from test (test x) xs
all_from test false (x ∷ xs) = all_from test false xs

any_from : {A : Type 0} (test : A → Bool) (first : Bool) (xs : List A) → fold (λ b x. b || test x) first xs ≡ (first || list_any test xs)
any_from test true [] = refl
any_from test false [] = refl
any_from test true (x ∷ xs) = any_from test true xs
any_from test false (x ∷ xs) = any_from test (test x) xs

module _ (at : Levels) (leaf_of : PinLiteral → Leaf) where
  abbrev value : Formula → Bool
  value f = formula_value at f

  abbrev literal_is : PinLiteral → Bool
  literal_is l = value (literal_formula leaf_of l)

  ands : (f : Formula) (ls : List PinLiteral) → value (fold (λ g k. (make_and g (literal_formula leaf_of k)).what) f ls) ≡ fold (λ b k. b && literal_is k) (value f) ls
  ands f [] = refl
  ands f (l ∷ ls) = ands (make_and f (literal_formula leaf_of l)).what ls ∙ ap (λ (b : Bool). fold (λ c k. c && literal_is k) b ls) (and_value at f (literal_formula leaf_of l))

  product_value : (ls : List PinLiteral) → value (product_formula leaf_of ls) ≡ list_all literal_is ls
  product_value [] = refl
  product_value (l ∷ ls) = ands (literal_formula leaf_of l) ls ∙ all_from literal_is (literal_is l) ls

  abbrev product_is : List PinLiteral → Bool
  product_is p = value (product_formula leaf_of p)

  ors : (f : Formula) (ps : List (List PinLiteral)) → value (fold (λ g q. (make_or g (product_formula leaf_of q)).what) f ps) ≡ fold (λ b q. b || product_is q) (value f) ps
  ors f [] = refl
  ors f (p ∷ ps) = ors (make_or f (product_formula leaf_of p)).what ps ∙ ap (λ (b : Bool). fold (λ c q. c || product_is q) b ps) (sum_value at f (product_formula leaf_of p))

  sum_is : (ps : List (List PinLiteral)) → value (sum_formula leaf_of ps) ≡ list_any product_is ps
  sum_is [] = refl
  sum_is (p ∷ ps) = ors (product_formula leaf_of p) ps ∙ any_from product_is (product_is p) ps

-- ---- literals and rows

twice : (v : Bool) → not (not v) ≡ v
twice true = refl
twice false = refl

module _ (t : Table) (fuses : List Bool) (leaf_of : PinLiteral → Leaf) (reads : ReadsPairs t fuses leaf_of) (at : Levels) where
  signed : (negated : Bool) (l m : Leaf) → l ≡ m → formula_value at (if negated then Not (Read l) else Read l) ≡ complement_if negated (leaf_value at m)
  signed true l m e = ap (λ (x : Leaf). not (leaf_value at x)) e
  signed false l m e = ap (leaf_value at) e

  -- by whether the cell stores
  of_cell : (stored higher : Bool) (q level : Bool) → complement_if (complement_if stored higher) (if stored then q else level) ≡ complement_if higher (if stored then not q else level)
  of_cell true true q level = sym (twice q)
  of_cell true false q level = refl
  of_cell false true q level = refl
  of_cell false false q level = refl

  leaf_by : (stored : Bool) (c pin : ℕ) → leaf_value at (if stored then leaf.Q c else leaf.Pin pin) ≡ (if stored then is_on at.q c else is_on at.pins pin)
  leaf_by true c pin = refl
  leaf_by false c pin = refl

  pair_value : (higher : Bool) (x : Carry) → literal_is at leaf_of (named t fuses (literal higher x)) ≡ literal_value t fuses at (literal higher x)
  pair_value higher (carry.Pin pin) = signed higher _ _ (reads higher (carry.Pin pin))
  pair_value higher (carry.Cell c) =
      signed (complement_if (stores t fuses c) higher) _ _ (reads higher (carry.Cell c))
      ∙ ap (complement_if (complement_if (stores t fuses c) higher)) (leaf_by (stores t fuses c) c (cell_at t c).pin)
      ∙ of_cell (stores t fuses c) higher (is_on at.q c) (is_on at.pins (cell_at t c).pin)

  all_named : (ls : List ColumnLiteral) → list_all (literal_is at leaf_of) (map (named t fuses) ls) ≡ list_all (literal_value t fuses at) ls
  all_named [] = refl
  all_named (l ∷ ls) =
      ap (λ (b : Bool). b && list_all (literal_is at leaf_of) (map (named t fuses) ls)) (pair_value l.higher l.pair)
      ∙ ap (λ (b : Bool). literal_value t fuses at l && b) (all_named ls)

  module _ (laws : IsDevice t) (sizes : HasRowSizes t fuses) where
    pub row_is : (row : ℕ) → row < t.rows → is_never_true t fuses row ≡ false → product_is at leaf_of (product_of t fuses row) ≡ row_value t fuses at row
    row_is row within live =
        product_value at leaf_of (product_of t fuses row) ∙ all_named (row_literals t fuses row)
        ∙ sym ((products t fuses row laws (sizes row within)).live live at)

    rows_are : (rows : List ℕ) → AllByRecursion (λ row. row < t.rows) rows → list_any (product_is at leaf_of) (map (product_of t fuses) (filter (λ row. not (is_never_true t fuses row)) rows)) ≡ list_any (row_value t fuses at) rows
    rows_are [] within = refl
    rows_are (row ∷ rows) within = elim (cases_Bool (is_never_true t fuses row)) [
      | inl dead ↦ rw dead (rows_are rows within.1 ∙ sym (ap (λ (b : Bool). b || list_any (row_value t fuses at) rows) ((products t fuses row laws (sizes row within.0)).dead dead at)))
      | inr live ↦ rw live (ap (λ (b : Bool). b || list_any (product_is at leaf_of) (map (product_of t fuses) (filter (λ r. not (is_never_true t fuses r)) rows))) (row_is row within.0 live)
          ∙ ap (λ (b : Bool). row_value t fuses at row || b) (rows_are rows within.1))
    ]

pub sums_have : SumsHaveRows
sums_have t fuses leaf_of c laws within sizes reads at =
    sum_is at leaf_of (map (product_of t fuses) (live_rows t fuses c)) ∙ rows_are t fuses leaf_of reads at laws sizes (data_rows t c) below
  where
    below : AllByRecursion (λ row. row < t.rows) (data_rows t c)
    below =
        each_in_range (λ row. row < t.rows) (cell_at t c).first (cell_at t c).room
        (λ row lower. let law = laws.cells c no_cell within in omega (arith, lower, law.data_below))
