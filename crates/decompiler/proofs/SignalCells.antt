-- The cells of the signals of a decompiled source that are read, or settle.
use Rattle.std.proofs.Common.{◌≡◌, ℕ, suc, ◌<◌, ◌⊎◌, inl, inr, Bool, true, false, not, if◌then◌else◌, Option, Some, None, List, length, unwrap_or, refl, sym, ap, subst, ◌∙◌, ◌&&◌}
use Rattle.decompiler.proofs.Common.{option_map, and_parts, true≢false, IsDevice, stores, Table, cell_at, Leaf, Kind, APin, ANode, AConstant, ADeviceName, is_stored, ModuleTree, cell_on, Design, design_of, name_at, is_one_of, leaf_by, settles, settles_by, IsSourceTree, has_lines, pins_of, source_of, place_of, signal_of, taken_once, HasNoCell, cell_name, free_plain, free_unassigned_name, kind_is, on_cell, IsNameAt, names_at, IsDeclared, declared_there, is_named, cell_here}
use Rattle.bit_expr.specs.declared.node.Leaf.TheVariants as leaf
use Rattle.abel_meaning.specs.SignalReads.{leaf_of}

-- the pin of a name, 0 if it has none
abbrev pub pin_of : Kind → ℕ
pin_of (APin pin negated) = pin
pin_of (ANode number) = 0
pin_of (AConstant value) = 0
pin_of ADeviceName = 0

module _ (t : Table) (fuses : List Bool) (laws : IsDevice t) (m : ModuleTree) (is : IsSourceTree (source_of t fuses) m) where
  abbrev d : Design
  d = design_of t m

  -- the cell on the pin of a signal
  abbrev pub cell_of_signal : ℕ → ℕ
  cell_of_signal s = unwrap_or (cell_on t (pin_of (name_at d.context s).kind)) 0

  abbrev signal_at : ℕ → ℕ
  signal_at c = signal_of t fuses (cell_at t c).pin

  -- a signal on a cell
  pub record IsOn (s : ℕ) : Type 0 where
    pub cell : ℕ
    pub within : cell < length t.cells
    pub declared : IsDeclared t fuses laws (cell_at t cell).pin
    pub at : s ≡ signal_at cell
    pub found : cell_of_signal s ≡ cell

  here : (c : ℕ) → c < length t.cells → (dec : IsDeclared t fuses laws (cell_at t c).pin) → (s : ℕ) → s ≡ signal_at c → IsOn s
  here c within dec s at = record {
    cell = c;
    within = within;
    declared = dec;
    at = at;
    found = ap cell_of_signal at
        ∙ ap (λ (k : Kind). unwrap_or (cell_on t (pin_of k)) 0) (kind_is t fuses laws m is (cell_at t c).pin dec)
        ∙ ap (λ (o : Option ℕ). unwrap_or o 0) (cell_here t laws c within);
  }

  pub on_inside : (s : ℕ) → IsOn s → cell_of_signal s < length t.cells
  on_inside s on = subst (λ (c : ℕ). c < length t.cells) (sym on.found) on.within

  pub on_apart : (s r : ℕ) → IsOn s → IsOn r → cell_of_signal s ≡ cell_of_signal r → s ≡ r
  on_apart s r a b same = a.at ∙ ap signal_at (sym a.found ∙ same ∙ b.found) ∙ sym b.at

  pub on_stored : (s : ℕ) (on : IsOn s) → is_stored (name_at d.context s) ≡ stores t fuses on.cell
  on_stored s on = ap (λ (i : ℕ). is_stored (name_at d.context i)) on.at ∙ (cell_name t fuses laws m is on.cell on.within on.declared).stored

  -- ---- by what is asked of the name

  -- a name on no cell is no register, does not settle, and has no leaf
  pub record IsNoSignal (s : ℕ) : Type 0 where
    pub plain : is_stored (name_at d.context s) ≡ false
    pub unsettled : settles (name_at d.context s) ≡ false
    pub unread : leaf_of d.context s ≡ None

  pub on_or_none : (s : ℕ) → IsOn s ⊎ IsNoSignal s
  on_or_none s = by_name (names_at t fuses laws m is s)
    where
      by_name : IsNameAt t fuses laws m is s → IsOn s ⊎ IsNoSignal s
      by_name (inl device) =
          inr (record {
            plain = device.1;
            unsettled = ap (settles_by (name_at d.context s)) device.0;
            unread = ap (leaf_by d.context (name_at d.context s)) device.0;
          })
      by_name (inr of) = elim (on_cell t fuses laws m is pin) [
        | inl c ↦
            inl (
            here c.0 c.1 (subst (IsDeclared t fuses laws) (sym c.2) dec) s
            (at ∙ ap (signal_of t fuses) (sym c.2))
            )
        | inr none ↦ inr (without none)
      ]
        where
          pin : ℕ
          pin = of.1

          dec : IsDeclared t fuses laws pin
          dec = declared_there t fuses laws of.0 pin of.3

          at : s ≡ signal_of t fuses pin
          at = of.2 ∙ ap suc (taken_once (is_named t fuses laws) 1 t.pins of.0 (place_of (pins_of t fuses) pin) pin of.3 dec.there)

          without : HasNoCell t fuses laws m is pin → IsNoSignal s
          without none =
              let plain : is_stored (name_at d.context s) ≡ false = ap (λ (i : ℕ). is_stored (name_at d.context i)) at ∙ free_plain t fuses laws m is pin dec none in
              let unassigned : (name_at d.context s).assigned ≡ false = ap (λ (i : ℕ). (name_at d.context i).assigned) at ∙ free_unassigned_name t fuses laws m is pin dec none in
              let unsettled : settles (name_at d.context s) ≡ false =
              ap (settles_by (name_at d.context s)) of.4 ∙ ap (λ (b : Bool). b && not (name_at d.context s).words.registered) unassigned in
              record {
                plain = plain;
                unsettled = unsettled;
                unread = ap (leaf_by d.context (name_at d.context s)) of.4
                    ∙ ap (λ (b : Bool). if b then option_map leaf.Q (cell_on t pin) else if settles (name_at d.context s) then Some (leaf.Pin pin) else None) plain
                    ∙ ap (λ (b : Bool). if b then Some (leaf.Pin pin) else None) unsettled;
              }

  -- a combinational signal with data is on a cell that may drive its pin
  pub record IsSettled (s : ℕ) : Type 0 where
    pub on : IsOn s
    pub has : has_lines t fuses on.cell ≡ true
    pub plain : stores t fuses on.cell ≡ false

  pub settled : (s : ℕ) → settles (name_at d.context s) ≡ true → IsSettled s
  settled s is_settled = elim (on_or_none s) [
    | inl on ↦ on_this on
    | inr none ↦ absurd (true≢false (sym is_settled ∙ none.unsettled))
  ]
    where
      on_this : IsOn s → IsSettled s
      on_this on =
          let c = cell_name t fuses laws m is on.cell on.within on.declared in
          let kind : (name_at d.context s).kind ≡ APin (cell_at t on.cell).pin false = ap (λ (i : ℕ). (name_at d.context i).kind) on.at ∙ c.kind in
          let parts = and_parts (name_at d.context s).assigned (not (name_at d.context s).words.registered) (sym (ap (settles_by (name_at d.context s)) kind) ∙ is_settled) in
          record {
            on = on;
            has = sym (ap (λ (i : ℕ). (name_at d.context i).assigned) on.at ∙ c.assigned) ∙ parts.0;
            plain = sym (on_stored s on) ∙ unstored (name_at d.context s).words.registered (name_at d.context s).assigned parts.1;
          }
        where
          unstored : (registered assigned : Bool) → not registered ≡ true → (registered && assigned) ≡ false
          unstored true assigned e = absurd (true≢false (sym e))
          unstored false assigned e = refl

  -- the leaf of the cell that is read
  abbrev pub cell_leaf : ℕ → Leaf
  cell_leaf c = if stores t fuses c then leaf.Q c else leaf.Pin (cell_at t c).pin

  -- a signal whose leaf is named
  pub record IsRead (s : ℕ) (named : Leaf → Bool) : Type 0 where
    pub on : IsOn s
    pub leaf_named : named (cell_leaf on.cell) ≡ true

  pub read : (s : ℕ) (named : Leaf → Bool) → is_one_of named (leaf_of d.context s) ≡ true → IsRead s named
  read s named some = elim (on_or_none s) [
    | inl on ↦ record { on = on; leaf_named = of_leaf on (stores t fuses on.cell) refl (settles (name_at d.context s)) refl }
    | inr none ↦ absurd (true≢false (sym some ∙ ap (is_one_of named) none.unread))
  ]
    where
      of_leaf : (on : IsOn s) → (stored : Bool) → stores t fuses on.cell ≡ stored → (settled : Bool) → settles (name_at d.context s) ≡ settled → named (cell_leaf on.cell) ≡ true
      of_leaf on stored e settled f =
          ap (λ (b : Bool). named (if b then leaf.Q c else leaf.Pin (cell_at t c).pin)) e ∙ by_kind stored settled (sym leaf_is ∙ some)
        where
          c : ℕ
          c = on.cell

          kind : (name_at d.context s).kind ≡ APin (cell_at t c).pin false
          kind = ap (λ (i : ℕ). (name_at d.context i).kind) on.at ∙ (cell_name t fuses laws m is on.cell on.within on.declared).kind

          by : Option ℕ → Bool → Bool → Option Leaf
          by o stored settled = if stored then option_map leaf.Q o else if settled then Some (leaf.Pin (cell_at t c).pin) else None

          leaf_is : is_one_of named (leaf_of d.context s) ≡ is_one_of named (by (Some c) stored settled)
          leaf_is =
              ap (λ (k : Kind). is_one_of named (leaf_by d.context (name_at d.context s) k)) kind
              ∙ ap (λ (b : Bool). is_one_of named (by (cell_on t (cell_at t c).pin) b (settles (name_at d.context s)))) (on_stored s on ∙ e)
              ∙ ap (λ (b : Bool). is_one_of named (by (cell_on t (cell_at t c).pin) stored b)) f
              ∙ ap (λ (o : Option ℕ). is_one_of named (by o stored settled)) (cell_here t laws c on.within)

          by_kind : (stored settled : Bool) → is_one_of named (by (Some c) stored settled) ≡ true → named (if stored then leaf.Q c else leaf.Pin (cell_at t c).pin) ≡ true
          by_kind true settled e = e
          by_kind false true e = e
          by_kind false false e = absurd (true≢false (sym e))
