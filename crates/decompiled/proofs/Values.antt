-- Values of the netlist's functions and controls, as the fuses have them.
use Rattle.std.proofs.Common.{◌≡◌, ℕ, ◌<◌, Bool, true, false, not, Option, None, Some, List, [], ◌∷◌, length, refl, sym, ap, ◌∙◌, ◌&&◌, ◌||◌, if◌then◌else◌, unwrap_or}
use Rattle.decompiled.proofs.Common.{true≢false, is_on, same_level, Levels, Enable, Row, PinLow, Driven, Released, IsDevice, complement_if, data_complements, enabled_by, or_value, pin_complements, row_if_any, is_never_true, is_inverted, says, stores, stores_by, row_value, Table, cell_at, no_cell, registered_at, Leaf, Formula, Const, formula_value, Function, allows, drives, may_drive, may_store, registers_as, Wanted, as_named, function_at, PinLiteral, sum_formula, control_products, data_line, has_lines, product_of, HasRowSizes, ReadsPairs, IsCellAsked, enable_formula, shared_formula}
use Rattle.pld_device.specs.declared.kinds.Kinds.{Kinds}
use Rattle.pld_device.specs.declared.kinds.Kinds.TheVariants.{Combinational, Registered, Either}
use Rattle.pld_device.specs.Given.{enables_never}
use Rattle.decompiled.proofs.RowValues.{products}
use Rattle.decompiled.proofs.SumValues.{row_is, sums_have}

-- ---- truth values

no_complement : (b : Bool) → not (not b) ≡ b
no_complement true = refl
no_complement false = refl

-- one value alone is allowed: that of the sum, or its complement
plain_allows : (one complement v : Bool) → allows (record { one = one; any = false; complement = complement }) v ≡ same_level v (complement_if complement one)
plain_allows true true true = refl
plain_allows true true false = refl
plain_allows true false true = refl
plain_allows true false false = refl
plain_allows false true true = refl
plain_allows false true false = refl
plain_allows false false true = refl
plain_allows false false false = refl

stores_alone : (kinds : Kinds) (chosen : Bool) → stores_by kinds chosen ≡ false → stores_by kinds false ≡ false
stores_alone Combinational chosen e = refl
stores_alone Registered chosen e = e
stores_alone Either chosen e = refl

or_no : (a b : Bool) → (a || not b) ≡ false → (a ≡ false) × (b ≡ true)
or_no true b e = absurd (true≢false e)
or_no false true e = (refl, refl)
or_no false false e = absurd (true≢false e)

module _ (t : Table) (fuses : List Bool) (leaf_of : PinLiteral → Leaf) (laws : IsDevice t) (sizes : HasRowSizes t fuses)
    (reads : ReadsPairs t fuses leaf_of) (at : Levels) where
  -- ---- controls

  control_value : (row : ℕ) → row < t.rows → formula_value at (sum_formula leaf_of (control_products t fuses row)) ≡ row_value t fuses at row
  control_value row within = by (is_never_true t fuses row) refl
    where
      by : (dead : Bool) → is_never_true t fuses row ≡ dead → formula_value at (sum_formula leaf_of (if dead then [] else product_of t fuses row ∷ [])) ≡ row_value t fuses at row
      by true e = sym ((products t fuses row laws (sizes row within)).dead e at)
      by false e = row_is t fuses leaf_of reads at laws sizes row within e

  pub shared_value : (row : Option ℕ) → ((r : ℕ) → row ≡ Some r → r < t.rows) → formula_value at (shared_formula t fuses leaf_of row) ≡ row_if_any t fuses at row
  shared_value None within = refl
  shared_value (Some row) within = control_value row (within row refl)

  -- ---- cells without lines

  module _ (c : ℕ) (c_within : c < length t.cells) (none : has_lines t fuses c ≡ false) where
    parts : (stores t fuses c ≡ false) × (enables_never t fuses (cell_at t c).enable ≡ true)
    parts = or_no (stores t fuses c) (enables_never t fuses (cell_at t c).enable) none

    pub spare_stores : registers_as (cell_at t c).kinds None ≡ stores t fuses c
    spare_stores = stores_alone (cell_at t c).kinds (says fuses (registered_at t c)) parts.0 ∙ sym parts.0

    never : (e : Enable) → (cell_at t c).enable ≡ e → enables_never t fuses e ≡ true → enabled_by t fuses at e ≡ drives at None e
    never (Row row) is e = (products t fuses row laws (sizes row ((laws.cells c no_cell c_within).enable_below row is))).dead e at
    never (PinLow pin) is e = absurd (true≢false (sym e))
    never Driven is e = absurd (true≢false (sym e))
    never Released is e = refl

    pub spare_enabled : enabled_by t fuses at (cell_at t c).enable ≡ drives at None (cell_at t c).enable
    spare_enabled = never (cell_at t c).enable refl parts.1

    pub spare_is_off : drives at None (cell_at t c).enable ≡ false
    spare_is_off = off (cell_at t c).enable parts.1
      where
        off : (e : Enable) → enables_never t fuses e ≡ true → drives at None e ≡ false
        off (Row row) e = refl
        off (PinLow pin) e = absurd (true≢false (sym e))
        off Driven e = absurd (true≢false (sym e))
        off Released e = refl

  -- ---- cells with lines

  module _ (c : ℕ) (c_within : c < length t.cells) (w : Wanted) (is : IsCellAsked t fuses leaf_of c w) where
    pub own_enabled : enabled_by t fuses at (cell_at t c).enable ≡ drives at (Some w) (cell_at t c).enable
    own_enabled = by (cell_at t c).enable refl is.enable
      where
        by : (e : Enable) → (cell_at t c).enable ≡ e → w.enable ≡ enable_formula t fuses leaf_of e → enabled_by t fuses at e ≡ drives at (Some w) e
        by (Row row) own e = sym (ap (λ (o : Option Formula). formula_value at (unwrap_or o (Const true))) e ∙ control_value row ((laws.cells c no_cell c_within).enable_below row own))
        by (PinLow pin) own e = refl
        by Driven own e = refl
        by Released own e = refl

    abbrev one : Bool
    one = or_value t fuses at c

    function_seen_as : function_at at w.function ≡ record { one = one; any = false; complement = (data_line t fuses c).negated }
    function_seen_as = ap (function_at at) is.function ∙ ap (λ (b : Bool). plain b) (sums_have t fuses leaf_of c laws c_within sizes reads at)
      where
        plain : Bool → Function Bool
        plain b = record { one = b; any = false; complement = (data_line t fuses c).negated }

    -- by whether it stores
    pub own_next : (v : Bool) → stores t fuses c ≡ true
        → may_store at (Some w) v ≡ same_level v (complement_if (data_complements t.flip (is_inverted t fuses c)) one)
    own_next v stored =
        let named : as_named w v ≡ v = ap (λ (b : Bool). if b then v else complement_if w.negated (complement_if (w.registered && not w.buffer) v)) (is.raw ∙ stored) in
        let negated : (data_line t fuses c).negated ≡ data_complements t.flip (is_inverted t fuses c) =
        ap (λ (b : Bool). if b then data_complements t.flip (is_inverted t fuses c) else pin_complements t.flip false (is_inverted t fuses c)) stored in
        ap (λ (f : Function Bool). allows f (as_named w v)) function_seen_as
        ∙ ap (λ (x : Bool). allows (record { one = one; any = false; complement = (data_line t fuses c).negated }) x) named
        ∙ plain_allows one (data_line t fuses c).negated v
        ∙ ap (λ (b : Bool). same_level v (complement_if b one)) negated

    pub own_level : (v : Bool)
        → may_drive at (cell_at t c).kinds c (Some w) v ≡ same_level v (complement_if (pin_complements t.flip (stores t fuses c) (is_inverted t fuses c)) (if stores t fuses c then is_on at.q c else one))
    own_level v = by (stores t fuses c) refl
      where
        by : (stored : Bool) → stores t fuses c ≡ stored
            → may_drive at (cell_at t c).kinds c (Some w) v ≡ same_level v (complement_if (pin_complements t.flip stored (is_inverted t fuses c)) (if stored then is_on at.q c else one))
        by true e =
            ap (λ (b : Bool). if b then same_level v (complement_if (not w.buffer) (is_on at.q c)) else allows (function_at at w.function) (as_named w v)) (is.registered ∙ e)
            ∙ ap (λ (b : Bool). same_level v (complement_if (not b) (is_on at.q c))) (is.buffer e)
            ∙ ap (λ (b : Bool). same_level v (complement_if b (is_on at.q c))) (no_complement (pin_complements t.flip true (is_inverted t fuses c)))
        by false e =
            let named : as_named w v ≡ v =
            ap (λ (b : Bool). if b then v else complement_if w.negated (complement_if (w.registered && not w.buffer) v)) (is.raw ∙ e)
            ∙ ap (λ (b : Bool). complement_if b (complement_if (w.registered && not w.buffer) v)) is.negated
            ∙ ap (λ (b : Bool). complement_if (b && not w.buffer) v) (is.registered ∙ e) in
            let negated : (data_line t fuses c).negated ≡ pin_complements t.flip false (is_inverted t fuses c) =
            ap (λ (b : Bool). if b then data_complements t.flip (is_inverted t fuses c) else pin_complements t.flip false (is_inverted t fuses c)) e in
            ap (λ (b : Bool). if b then same_level v (complement_if (not w.buffer) (is_on at.q c)) else allows (function_at at w.function) (as_named w v)) (is.registered ∙ e)
            ∙ ap (λ (f : Function Bool). allows f (as_named w v)) function_seen_as
            ∙ ap (λ (x : Bool). allows (record { one = one; any = false; complement = (data_line t fuses c).negated }) x) named
            ∙ plain_allows one (data_line t fuses c).negated v
            ∙ ap (λ (b : Bool). same_level v (complement_if b one)) negated
