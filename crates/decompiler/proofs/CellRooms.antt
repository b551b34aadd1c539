-- Each assigned cell has room for its written lists, and its enable is one product.
use Rattle.std.proofs.Common.{◌≡◌, ℕ, ◌<◌, ◌≤◌, Bool, true, false, not, List, [], ◌∷◌, length, filter, map, Option, Some, None, refl, sym, ap, subst, ◌∙◌, arith, inl, inr, if◌then◌else◌, unwrap_or}
use Rattle.decompiler.proofs.Common.{option_map, cases_Bool, length-map, length-range_with_len, same_Some, Enable, Row, PinLow, Driven, Released, IsDevice, data_rows, is_never_true, is_inverted, stores, Table, cell_at, no_cell, CellWanted, Netlist, ExprId, Leaf, arena, formula_at, Formula, Const, Or, Function, Wanted, plain_netlist, plain_wanted, wanted_at, IsSoundNetlist, Cube, Products, sum_of, bit_list, written, cell_wanted, enable_bit, enable_is, sound_id_at, wanted_is, rows_are_positive, IsFunctionTooWide, IsShort, PinLiteral, sum_formula, control_products, has_lines, live_rows, product_of, IsCellAsked, IsFusesNetlist, enable_formula, ReadNoNode}
use Rattle.fit_plans.specs.Tries.{allowed_of, needed_of, one_of}
use Rattle.fitter.proofs.Widths.{cell_low}
use Rattle.fitter.specs.Products.{IsProduct}
use Rattle.compile_phases.specs.Fits.{HasRoom}
use Rattle.decompiler.proofs.FormsRead.{IsAskedAs, form_said, may_be, positive}
use Rattle.decompiler.proofs.ShortSums.{short_sums}

-- ---- sums of few products

few_kept : {X : Type 0} (test : X → Bool) (xs : List X) → length (filter test xs) ≤ length xs
few_kept test [] = omega arith
few_kept test (x ∷ xs) = elim (cases_Bool (test x)) [ inl e ↦ rw e (omega (arith, few_kept test xs)) | inr e ↦ rw e (omega (arith, few_kept test xs)) ]

few_rows : (t : Table) (fuses : List Bool) (c : ℕ) → length (map (product_of t fuses) (live_rows t fuses c)) ≤ (cell_at t c).room
few_rows t fuses c =
    let kept = few_kept (λ row. not (is_never_true t fuses row)) (data_rows t c) in
    omega (arith, kept, length-map (live_rows t fuses c) (product_of t fuses), length-range_with_len (cell_at t c).first (cell_at t c).room)

-- a sum of one product or none
pub record IsOneOrNone (leaf_of : PinLiteral → Leaf) (f : Formula) : Type 0 where
  pub products : List (List PinLiteral)
  pub few : length products ≤ 1
  pub is : f ≡ sum_formula leaf_of products

pub control_few : (t : Table) (fuses : List Bool) (leaf_of : PinLiteral → Leaf) (row : ℕ) → IsOneOrNone leaf_of (sum_formula leaf_of (control_products t fuses row))
control_few t fuses leaf_of row = record { products = control_products t fuses row; few = by_test (is_never_true t fuses row); is = refl }
  where
    by_test : (never : Bool) → length (if never then [] else product_of t fuses row ∷ []) ≤ 1
    by_test true = omega arith
    by_test false = omega arith

-- its bit is one product, or 0
pub bit_product : (vars : ℕ) (net : Netlist) (leaf_of : PinLiteral → Leaf) → ReadNoNode leaf_of → (bit : ExprId) → IsOneOrNone leaf_of (formula_at (arena net.exprs) bit)
    → IsProduct vars net bit
bit_product vars net leaf_of none bit one =
    let short : IsShort (written net (sum_formula leaf_of one.products) true) (length one.products) = short_sums net leaf_of one.products none (omega (arith, one.few)) in
    by_rows short.0 (ap (λ (f : Formula). written net f true) one.is ∙ short.1) (omega (arith, short.2, one.few))
  where
    by_rows : (rows : List Cube) → bit_list net bit true ≡ Some rows → length rows ≤ 1 → IsProduct vars net bit
    by_rows [] is few = record { list = []; list_is = is; one = (None, λ p long. refl) }
    by_rows (r ∷ []) is few = record { list = r ∷ []; list_is = is; one = (Some r, λ p long. refl) }
    by_rows (r ∷ s ∷ rows) is few = absurd (omega (arith, few))

-- ---- what is asked of an assigned cell

pub some_is_none : {X : Type 0} {x : X} → Some x ≡ None → ⊥
some_is_none e = cc

module _ (t : Table) (fuses : List Bool) (leaf_of : PinLiteral → Leaf) (net : Netlist) (laws : IsDevice t) (none : ReadNoNode leaf_of)
    (sound : IsSoundNetlist t net) (is : IsFusesNetlist t fuses leaf_of (plain_netlist net)) where
  abbrev plain : CellWanted → Wanted
  plain w = plain_wanted (arena net.exprs) w

  module _ (c : ℕ) (w : CellWanted) (at : cell_wanted net c ≡ Some w) where
    pub within : c < length t.cells
    within = cell_low t net sound c w at

    pub plain_is : wanted_at (plain_netlist net) c ≡ Some (plain w)
    plain_is = wanted_is net c ∙ ap (option_map plain) at

    pub asked : IsCellAsked t fuses leaf_of c (plain w)
    asked = elim (cases_Bool (has_lines t fuses c)) [
      | inl has ↦
          let found = is.assigned c within has in
          subst (IsCellAsked t fuses leaf_of c) (same_Some found.0 (plain w) (sym found.1 ∙ plain_is)) found.2
      | inr lacks ↦ absurd (some_is_none (sym plain_is ∙ is.unassigned c within lacks))
    ]

    abbrev form : Bool
    form = form_said t.flip (is_inverted t fuses c)

    as_fuses : IsAskedAs t.flip (stores t fuses c) (is_inverted t fuses c) w
    as_fuses =
        record {
          registered = asked.registered;
          buffer = asked.buffer;
          negated = asked.negated;
          raw = asked.raw;
          complement = ap (λ (f : Function Formula). f.complement) asked.function;
        }

    room_low : (cell_at t c).room ≤ 16
    room_low = (laws.cells c no_cell within).room_high

    abbrev rows : List (List PinLiteral)
    rows = map (product_of t fuses) (live_rows t fuses c)

    short : IsShort (written net (one_of net w.function) true) (length rows)
    short =
        subst (λ (f : Formula). IsShort (written net f true) (length rows)) (sym (ap (λ (f : Function Formula). f.one) asked.function))
        (short_sums net leaf_of rows none (omega (arith, few_rows t fuses c, room_low)))

    any_is : formula_at (arena net.exprs) w.function.any ≡ Const false
    any_is = ap (λ (f : Function Formula). f.any) asked.function

    needed_is : needed_of net w.function (rows_are_positive t.flip w form) ≡ Some short.0
    needed_is = ap (needed_of net w.function) (positive w t.flip (stores t fuses c) (is_inverted t fuses c) as_fuses) ∙ short.1

    allowed_is : allowed_of net w.function (rows_are_positive t.flip w form) ≡ Some short.0
    allowed_is =
        ap (allowed_of net w.function) (positive w t.flip (stores t fuses c) (is_inverted t fuses c) as_fuses)
        ∙ ap (λ (g : Formula). written net (Or (one_of net w.function) g) true) any_is
        ∙ ap (λ (p : Products). sum_of p (Some [])) short.1

    cell_is : w.cell ≡ c
    cell_is = (sound_id_at t net sound c w at).cell

    few : length short.0 ≤ (cell_at t w.cell).room
    few = subst (λ (k : ℕ). length short.0 ≤ (cell_at t k).room) (sym cell_is) (omega (arith, short.2, few_rows t fuses c))

    pub room : HasRoom t net w
    room =
        record {
          inverted = form;
          allowed_form = may_be w t.flip (stores t fuses c) (is_inverted t fuses c) as_fuses;
          needed = short.0;
          needed_is = needed_is;
          allowed = short.0;
          allowed_is = allowed_is;
          needed_few = few;
          allowed_few = few;
        }

    -- its enable
    pub enable_one : IsProduct (length t.pairs) net (enable_bit w)
    enable_one = bit_product (length t.pairs) net leaf_of none (enable_bit w) (by_enable (cell_at t c).enable (enable_is net w ∙ ap (λ (f : Option Formula). unwrap_or f (Const true)) asked.enable))
      where
        by_enable : (e : Enable) → formula_at (arena net.exprs) (enable_bit w) ≡ unwrap_or (enable_formula t fuses leaf_of e) (Const true)
            → IsOneOrNone leaf_of (formula_at (arena net.exprs) (enable_bit w))
        by_enable (Row row) same = subst (IsOneOrNone leaf_of) (sym same) (control_few t fuses leaf_of row)
        by_enable (PinLow pin) same = record { products = [] ∷ []; few = omega arith; is = same }
        by_enable Driven same = record { products = [] ∷ []; few = omega arith; is = same }
        by_enable Released same = record { products = [] ∷ []; few = omega arith; is = same }

-- a function whose cell has room isn't too wide
pub room_narrow : (t : Table) (net : Netlist) (w : CellWanted) → HasRoom t net w → IsFunctionTooWide t net w → ⊥
room_narrow t net w room wide = elim (wide room.inverted room.allowed_form) [
  | inl none ↦ some_is_none (sym room.needed_is ∙ none)
  | inr none ↦ some_is_none (sym room.allowed_is ∙ none)
]
