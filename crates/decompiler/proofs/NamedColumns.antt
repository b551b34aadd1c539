-- A row reads the cell of each leaf that the formula of its product names.
use Rattle.std.proofs.Common.{◌≡◌, ℕ, zero, suc, ◌+◌, ◌<◌, ◌≤◌, ◌⊎◌, inl, inr, Bool, true, false, not, if◌then◌else◌, List, [], ◌∷◌, length, filter, fold, map, refl, sym, ap, ◌∙◌, arith, eqb-true, eq-eqb, ◌==◌, ◌&&◌, ◌||◌}
use Rattle.decompiler.proofs.Common.{AllByRecursion, list_any, range_with_len, not-true, or_cases, or_left, or_right, true≢false, Carry, IsPair, IsDevice, data_rows, is_never_true, row_reads, stores, Table, cell_at, no_cell, own_pins, Leaf, Made, make_and, make_or, Formula, Read, Not, names, same_leaf, carries_cell, pairs_read, row_reads_cell, PinLiteral, literal_formula, product_formula, sum_formula, ColumnLiteral, row_literals, some_read, control_products, live_rows, named, product_of, HasRowSizes, pair_leaf, leaf_of, reads_pairs}
use Rattle.pld_device.specs.declared.carry.Carry.TheVariants as carry
use Rattle.bit_expr.specs.declared.node.Leaf.TheVariants as leaf
use Rattle.decompiled.proofs.PairReads.{reads}
use Rattle.decompiler.proofs.SmallBits.{and_gives, or_gives}
use Rattle.decompiler.proofs.PairColumns.{IsDevicePair, row_pairs}

-- ---- what folded formulas name

module _ (l : Leaf) where
  -- what a product or a sum names, one of its parts does
  and_names : (f g : Formula) → names (make_and f g).what l ≡ true → (names f l ≡ true) ⊎ (names g l ≡ true)
  and_names f g =
      and_gives f g (λ (x : Made Formula). names x.what l ≡ true → (names f l ≡ true) ⊎ (names g l ≡ true))
      (λ e. inl e) (λ e. inr e) (λ e. absurd (true≢false (sym e))) (λ e. or_cases (names f l) (names g l) e)

  or_names : (f g : Formula) → names (make_or f g).what l ≡ true → (names f l ≡ true) ⊎ (names g l ≡ true)
  or_names f g =
      or_gives f g (λ (x : Made Formula). names x.what l ≡ true → (names f l ≡ true) ⊎ (names g l ≡ true))
      (λ e. inl e) (λ e. inr e) (λ e. absurd (true≢false (sym e))) (λ e. or_cases (names f l) (names g l) e)

  module _ (leaf_at : PinLiteral → Leaf) where
    abbrev pub reads_literal : PinLiteral → Bool
    reads_literal k = same_leaf (leaf_at k) l

    abbrev pub reads_product : List PinLiteral → Bool
    reads_product p = list_any reads_literal p

    literal_named : (k : PinLiteral) → names (literal_formula leaf_at k) l ≡ reads_literal k
    literal_named k = by_sign k.negated
      where
        by_sign : (b : Bool) → names (if b then Not (Read (leaf_at k)) else Read (leaf_at k)) l ≡ reads_literal k
        by_sign true = refl
        by_sign false = refl

    literals_named : (f : Formula) (ks : List PinLiteral) → names (fold (λ (g : Formula) (k : PinLiteral). (make_and g (literal_formula leaf_at k)).what) f ks) l ≡ true
        → (names f l ≡ true) ⊎ (reads_product ks ≡ true)
    literals_named f [] e = inl e
    literals_named f (k ∷ ks) e = elim (literals_named (make_and f (literal_formula leaf_at k)).what ks e) [
      | inl first ↦ elim (and_names f (literal_formula leaf_at k) first) [
        | inl before ↦ inl before
        | inr this ↦ inr (or_left (reads_literal k) (reads_product ks) (sym (literal_named k) ∙ this))
      ]
      | inr later ↦ inr (or_right (reads_literal k) (reads_product ks) later)
    ]

    product_named : (p : List PinLiteral) → names (product_formula leaf_at p) l ≡ true → reads_product p ≡ true
    product_named [] e = absurd (true≢false (sym e))
    product_named (k ∷ ks) e = elim (literals_named (literal_formula leaf_at k) ks e) [
      | inl first ↦ or_left (reads_literal k) (reads_product ks) (sym (literal_named k) ∙ first)
      | inr later ↦ or_right (reads_literal k) (reads_product ks) later
    ]

    products_named : (f : Formula) (ps : List (List PinLiteral)) → names (fold (λ (g : Formula) (p : List PinLiteral). (make_or g (product_formula leaf_at p)).what) f ps) l ≡ true
        → (names f l ≡ true) ⊎ (list_any reads_product ps ≡ true)
    products_named f [] e = inl e
    products_named f (p ∷ ps) e = elim (products_named (make_or f (product_formula leaf_at p)).what ps e) [
      | inl first ↦ elim (or_names f (product_formula leaf_at p) first) [
        | inl before ↦ inl before
        | inr this ↦ inr (or_left (reads_product p) (list_any reads_product ps) (product_named p this))
      ]
      | inr later ↦ inr (or_right (reads_product p) (list_any reads_product ps) later)
    ]

    -- what a sum names, a literal of one of its products reads
    pub sum_named : (ps : List (List PinLiteral)) → names (sum_formula leaf_at ps) l ≡ true → list_any reads_product ps ≡ true
    sum_named [] e = absurd (true≢false (sym e))
    sum_named (p ∷ ps) e = elim (products_named (product_formula leaf_at p) ps e) [
      | inl first ↦ or_left (reads_product p) (list_any reads_product ps) (product_named p first)
      | inr later ↦ or_right (reads_product p) (list_any reads_product ps) later
    ]

-- ---- rows

any_mapped : {A B : Type 0} (f : A → B) (test : B → Bool) (xs : List A) → list_any test (map f xs) ≡ list_any (λ x. test (f x)) xs
any_mapped f test [] = refl
any_mapped f test (x ∷ xs) = ap (λ (b : Bool). test (f x) || b) (any_mapped f test xs)

-- a test that is passed wherever another is
any_weaker : {A : Type 0} (P : A → Type 0) (p q : A → Bool) → ((x : A) → P x → p x ≡ true → q x ≡ true) → (xs : List A) → AllByRecursion P xs → list_any p xs ≡ true → list_any q xs ≡ true
any_weaker P p q so [] all some = some
any_weaker P p q so (x ∷ xs) all some = elim (or_cases (p x) (list_any p xs) some) [
  | inl here ↦ or_left (q x) (list_any q xs) (so x all.0 here)
  | inr later ↦ or_right (q x) (list_any q xs) (any_weaker P p q so xs all.1 later)
]

module _ (t : Table) (fuses : List Bool) (laws : IsDevice t) (sizes : HasRowSizes t fuses) (c : ℕ) (within : c < length t.cells) where
  abbrev cell_leaf : Leaf
  cell_leaf = if stores t fuses c then leaf.Q c else leaf.Pin (cell_at t c).pin

  abbrev pub reads_it : List PinLiteral → Bool
  reads_it p = reads_product cell_leaf (leaf_of t) p

  -- the leaf of a cell is that of its pair alone
  pair_carries : (x : Carry) → IsPair t x → same_leaf (pair_leaf t fuses x) cell_leaf ≡ true → carries_cell c x ≡ true
  pair_carries (carry.Pin pin) law same = absurd (other (stores t fuses c) same)
    where
      other : (b : Bool) → same_leaf (leaf.Pin pin) (if b then leaf.Q c else leaf.Pin (cell_at t c).pin) ≡ true → ⊥
      other true e = true≢false (sym e)
      other false e = law.1 c no_cell within (sym (eqb-true pin (cell_at t c).pin e))
  pair_carries (carry.Cell e) law same = by_kinds (stores t fuses e) (stores t fuses c) same
    where
      by_kinds : (a b : Bool) → same_leaf (if a then leaf.Q e else leaf.Pin (cell_at t e).pin) (if b then leaf.Q c else leaf.Pin (cell_at t c).pin) ≡ true → (e == c) ≡ true
      by_kinds true true is = is
      by_kinds true false is = absurd (true≢false (sym is))
      by_kinds false true is = absurd (true≢false (sym is))
      by_kinds false false is = eq-eqb e c ((own_pins t laws).apart e c law within (eqb-true (cell_at t e).pin (cell_at t c).pin is))

  column_carries : (k : ColumnLiteral) → IsDevicePair t fuses k.pair → same_leaf (leaf_of t (named t fuses k)) cell_leaf ≡ true → carries_cell c k.pair ≡ true
  column_carries k of same =
      pair_carries k.pair of.law (ap (λ (l : Leaf). same_leaf l cell_leaf) (sym (reads_pairs t fuses laws k.higher k.pair of.law)) ∙ same)

  pairs_are : (row k : ℕ) (xs : List Carry) → some_read (row_reads t fuses row) (carries_cell c) k xs ≡ pairs_read t fuses row c k xs
  pairs_are row k [] = refl
  pairs_are row k (x ∷ xs) = ap (λ (b : Bool). (row_reads t fuses row k && carries_cell c x) || b) (pairs_are row (suc k) xs)

  -- a row that may be true reads the cell whose leaf its product reads
  pub row_reads_it : (row : ℕ) → row < t.rows → is_never_true t fuses row ≡ false → reads_it (product_of t fuses row) ≡ true → row_reads_cell t fuses row c ≡ true
  row_reads_it row low live some =
      sym (pairs_are row 0 t.pairs)
      ∙ sym (reads t fuses row (carries_cell c) laws (sizes row low) live)
      ∙ any_weaker (λ (k : ColumnLiteral). IsDevicePair t fuses k.pair) (λ (k : ColumnLiteral). same_leaf (leaf_of t (named t fuses k)) cell_leaf) (λ (k : ColumnLiteral). carries_cell c k.pair)
      column_carries (row_literals t fuses row) (row_pairs t fuses laws row)
      (sym (any_mapped (named t fuses) (reads_literal cell_leaf (leaf_of t)) (row_literals t fuses row)) ∙ some)

  pub control_reads_it : (row : ℕ) → row < t.rows → list_any reads_it (control_products t fuses row) ≡ true → row_reads_cell t fuses row c ≡ true
  control_reads_it row low some = by_test (is_never_true t fuses row) refl
    where
      products_if : Bool → List (List PinLiteral)
      products_if dead = if dead then [] else product_of t fuses row ∷ []

      by_test : (dead : Bool) → is_never_true t fuses row ≡ dead → row_reads_cell t fuses row c ≡ true
      by_test true e = absurd (true≢false (sym some ∙ ap (λ (b : Bool). list_any reads_it (products_if b)) e))
      by_test false e =
          row_reads_it row low e (only (reads_it (product_of t fuses row)) (sym (ap (λ (b : Bool). list_any reads_it (products_if b)) e) ∙ some))
        where
          only : (b : Bool) → (b || false) ≡ true → b ≡ true
          only true e = refl
          only false e = e

  -- ---- data rows

  abbrev live : ℕ → Bool
  live row = not (is_never_true t fuses row)

  live_reads : (a n : ℕ) → a + n ≤ t.rows → list_any (λ (row : ℕ). reads_it (product_of t fuses row)) (filter live (range_with_len a n)) ≡ true
      → list_any (λ (row : ℕ). row_reads_cell t fuses row c) (range_with_len a n) ≡ true
  live_reads a zero low some = some
  live_reads a (suc n) low some = by_test (live a) refl (λ more. live_reads (a + 1) n (omega (arith, low)) more)
    where
      rest_by : Bool → List ℕ
      rest_by b = if b then a ∷ filter live (range_with_len (a + 1) n) else filter live (range_with_len (a + 1) n)

      test : ℕ → Bool
      test row = reads_it (product_of t fuses row)

      IsLater : Type 0
      IsLater =
          list_any (λ (row : ℕ). reads_it (product_of t fuses row)) (filter live (range_with_len (a + 1) n)) ≡ true
          → list_any (λ (row : ℕ). row_reads_cell t fuses row c) (range_with_len (a + 1) n) ≡ true

      behind : list_any (λ (row : ℕ). row_reads_cell t fuses row c) (range_with_len (a + 1) n) ≡ true → list_any (λ (row : ℕ). row_reads_cell t fuses row c) (range_with_len a (suc n)) ≡ true
      behind more = or_right (row_reads_cell t fuses a c) (list_any (λ (row : ℕ). row_reads_cell t fuses row c) (range_with_len (a + 1) n)) more

      by_test : (b : Bool) → live a ≡ b → IsLater → list_any (λ (row : ℕ). row_reads_cell t fuses row c) (range_with_len a (suc n)) ≡ true
      by_test true e later = elim (or_cases (test a) (list_any test (filter live (range_with_len (a + 1) n))) (sym (ap (λ (b : Bool). list_any test (rest_by b)) e) ∙ some)) [
        | inl here ↦
            or_left (row_reads_cell t fuses a c) (list_any (λ (row : ℕ). row_reads_cell t fuses row c) (range_with_len (a + 1) n))
            (row_reads_it a (omega (arith, low)) (not-true (is_never_true t fuses a) e) here)
        | inr more ↦ behind (later more)
      ]
      by_test false e later = behind (later (sym (ap (λ (b : Bool). list_any test (rest_by b)) e) ∙ some))

  pub data_read_it : (e : ℕ) → e < length t.cells → list_any reads_it (map (product_of t fuses) (live_rows t fuses e)) ≡ true
      → list_any (λ (row : ℕ). row_reads_cell t fuses row c) (data_rows t e) ≡ true
  data_read_it e e_within some =
      live_reads (cell_at t e).first (cell_at t e).room (laws.cells e no_cell e_within).data_below
      (sym (any_mapped (product_of t fuses) reads_it (live_rows t fuses e)) ∙ some)
