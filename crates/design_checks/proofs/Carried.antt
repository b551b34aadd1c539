-- A use that isn't refused reads a leaf for which the device has columns.
use Rattle.std.proofs.Common.{◌≡◌, ℕ, ◌<◌, ◌==◌, Bool, true, false, not, ◌&&◌, ◌||◌, List, length, get_or, Option, Some, None, refl, sym, ap, ◌∙◌, subst, inl, inr, position, is_some}
use Rattle.design_checks.proofs.Common.{list_any, cases_Bool, true≢false, eqb-true, eq-eqb, and_parts, list_any_at, slice_get-get_or, cell_at, no_cell, same_leaf, Extension, Kind, APin, ANode, ADeviceName, Entry, is_stored, follows_q, Context, name_at, no_name, holds_leaf, carries_level, carries_q, reads_register, reads_pin, reads_by, has_read_path, has_extension, UsesHaveColumns}
use Rattle.std.proofs.lemmas.List.Quantifiers.{position-Some}
use Rattle.pld_device.specs.declared.carry.Carry.{Carry}
use Rattle.pld_device.specs.declared.carry.Carry.TheVariants as carry
use Rattle.pld_device.specs.declared.cell.Cell.{Cell}
use Rattle.pld_device.specs.Pins.{is_read_pin, pair_pins, cell_on, carries_cell}
use Rattle.bit_expr.specs.declared.node.Leaf.{Leaf}
use Rattle.bit_expr.specs.declared.node.Leaf.TheVariants as leaf
use Rattle.abel_tree.specs.declared.words.Extension.TheVariants as extension
use Rattle.abel_meaning.specs.Controls.{is_on_pin, signal_on, cell_stores_for, must_register}
use Rattle.abel_meaning.specs.Sources.{pin_source, register_source, node_source, on_pin, source_by}
use Rattle.netlist_laws.specs.Takeable.{PinsApart, HasColumns}
use Rattle.netlist_laws.proofs.CoverReads.{leaf_is}
use Rattle.netlist_laws.proofs.SoundLeaves.{inside, some_place}

-- a first place that there is
placed : {X : Type 0} (p : X → Bool) (xs : List X) → is_some (position p xs) ≡ true → (k : ℕ) × (position p xs ≡ Some k)
placed p xs there = by (position p xs) refl there
  where
    by : (found : Option ℕ) → position p xs ≡ found → is_some found ≡ true → (k : ℕ) × (position p xs ≡ Some k)
    by None is some = absurd cc
    by (Some k) is some = (k, is)

same_cell : (x : Carry) (c : ℕ) → carries_cell c x ≡ true → x ≡ carry.Cell c
same_cell (carry.Pin p) c is = absurd cc
same_cell (carry.Cell e) c is = ap (λ n. carry.Cell n) (eqb-true e c is)

module _ (d : Context) (apart : PinsApart d) where
  -- what is read is the leaf that is held
  held : (m l : Leaf) → HasColumns d m → same_leaf m l ≡ true → HasColumns d l
  held m l there is = subst (HasColumns d) (leaf_is m l is) there

  -- ---- registers

  q_carried : (c : ℕ) → carries_q d.device (Some c) ≡ true → HasColumns d (leaf.Q c)
  q_carried c there =
      let at = placed (carries_cell c) d.device.pairs there in
      let is = position-Some (carries_cell c) d.device.pairs at.0 (carry.Pin 0) at.1 in
      (at.0, slice_get-get_or d.device.pairs at.0 (carry.Pin 0) is.0 ∙ ap (λ x. Some x) (same_cell (get_or d.device.pairs at.0 (carry.Pin 0)) c is.1))

  register_read : (pin : ℕ) (negated buffer : Bool) (cell : Option ℕ) (e : Option Extension) (l : Leaf) → cell_on d.device pin ≡ cell → reads_register d.device pin e ≡ true → holds_leaf (register_source negated buffer cell e) l ≡ true → HasColumns d l
  register_read pin negated buffer (Some c) None l on there is = held (leaf.Q c) l (q_carried c (sym (ap (carries_q d.device) on) ∙ there)) is
  register_read pin negated buffer (Some c) (Some extension.Fb) l on there is = held (leaf.Q c) l (q_carried c (sym (ap (carries_q d.device) on) ∙ there)) is
  register_read pin negated buffer (Some c) (Some extension.Q) l on there is = held (leaf.Q c) l (q_carried c (sym (ap (carries_q d.device) on) ∙ there)) is
  register_read pin negated buffer _ _ l on there is = absurd cc

  -- ---- levels

  module _ (s pin : ℕ) (negated : Bool) (kind : (name_at d s).kind ≡ APin pin negated) (loose : is_stored (name_at d s) ≡ false) where
    abbrev needs : Cell → Bool
    needs c = (c.pin == pin) && must_register c.kinds

    here : (c : ℕ) → (cell_at d.device c).pin ≡ pin → is_on_pin (cell_at d.device c).pin (name_at d s).kind ≡ true
    here c on = rw kind (eq-eqb pin (cell_at d.device c).pin (sym on))

    within : s < length d.names
    within = inside d s (λ e. let same : APin pin negated ≡ ADeviceName = sym kind ∙ e in cc)

    -- what is assigned on the cell is this signal
    stores : (c : ℕ) → c < length d.device.cells → (cell_at d.device c).pin ≡ pin → (found : Option ℕ) → signal_on d c ≡ found → ((name_at d s).assigned || not (list_any needs d.device.cells)) ≡ true → cell_stores_for d c found ≡ false
    stores c low on (Some r) is free =
        let at = position-Some (λ (x : Entry). x.assigned && is_on_pin (cell_at d.device c).pin x.kind) d.names r no_name is in
        let same : r ≡ s = apart (cell_at d.device c).pin r s (and_parts (name_at d r).assigned (is_on_pin (cell_at d.device c).pin (name_at d r).kind) at.1).1 (here c on) in
        ap (λ n. is_stored (name_at d n)) same ∙ loose
    stores c low on None is free =
        elim (cases_Bool (name_at d s).assigned) [
          | inl assigned ↦
              let first = some_place (λ (x : Entry). x.assigned && is_on_pin (cell_at d.device c).pin x.kind) no_name d.names s within (rw assigned (here c on)) in
              absurd (let no : Some first.0 ≡ None = sym first.1 ∙ is in cc)
          | inr other ↦
              elim (cases_Bool (must_register (cell_at d.device c).kinds)) [
                | inl must ↦ absurd (true≢false (sym (rw other at free) ∙ ap not (list_any_at needs d.device.cells c no_cell low (rw must (both c on)))))
                | inr may ↦ may
              ]
        ]
      where
        both : (c : ℕ) → (cell_at d.device c).pin ≡ pin → (((cell_at d.device c).pin == pin) && true) ≡ true
        both c on = rw (eq-eqb (cell_at d.device c).pin pin on) refl

    level_carried : carries_level d.device (name_at d s) pin ≡ true → HasColumns d (leaf.Pin pin)
    level_carried there =
        let parts = and_parts (is_read_pin d.device pin) ((name_at d s).assigned || not (list_any needs d.device.cells)) there in
        let found = and_parts (is_some (position (λ p. p == pin) (pair_pins d.device))) (not (pin == d.device.power_down)) parts.0 in
        let at = placed (λ p. p == pin) (pair_pins d.device) found.0 in
        let is = position-Some (λ p. p == pin) (pair_pins d.device) at.0 0 at.1 in (
          (at.0, slice_get-get_or (pair_pins d.device) at.0 0 is.0 ∙ ap (λ x. Some x) (eqb-true (get_or (pair_pins d.device) at.0 0) pin is.1)),
          λ c low on. stores c low on (signal_on d c) refl parts.1,
        )

    pin_read : (e : Option Extension) (l : Leaf) → reads_pin d.device (name_at d s) pin e ≡ true → holds_leaf (pin_source pin negated e) l ≡ true → HasColumns d l
    pin_read None l there is = held (leaf.Pin pin) l (level_carried there) is
    pin_read (Some extension.Pin) l there is = held (leaf.Pin pin) l (level_carried there) is
    pin_read _ l there is = absurd cc

  -- ---- by what the name is declared as

  node_read : (n : ℕ) (e : Option Extension) (l : Leaf) → holds_leaf (node_source n e) l ≡ true → HasColumns d l
  node_read n None l is = held (leaf.Node n) l tt is
  node_read n (Some e) l is = absurd cc

  by_stored : (s pin : ℕ) (negated stored : Bool) (e : Option Extension) (l : Leaf) → (name_at d s).kind ≡ APin pin negated → is_stored (name_at d s) ≡ stored → reads_by d.device (name_at d s) stored (APin pin negated) e ≡ true → holds_leaf (on_pin d.device (name_at d s) pin negated stored e) l ≡ true → HasColumns d l
  by_stored s pin negated true e l kind stored there is = register_read pin negated (follows_q (name_at d s)) (cell_on d.device pin) e l refl there is
  by_stored s pin negated false e l kind stored there is = pin_read s pin negated kind stored e l there is

  by_kind : (s : ℕ) (kind : Kind) (e : Option Extension) (l : Leaf) → (name_at d s).kind ≡ kind → reads_by d.device (name_at d s) (is_stored (name_at d s)) kind e ≡ true → holds_leaf (source_by d.device (name_at d s) kind e) l ≡ true → HasColumns d l
  by_kind s (APin pin negated) e l kind there is = by_stored s pin negated (is_stored (name_at d s)) e l kind refl there is
  by_kind s (ANode n) e l kind there is = node_read n e l is
  by_kind s _ e l kind there is = absurd cc

  carried : (s : ℕ) (e : Option Extension) (l : Leaf) → has_read_path d.device (name_at d s) e ≡ true → holds_leaf (source_by d.device (name_at d s) (name_at d s).kind e) l ≡ true → HasColumns d l
  carried s e l there is = by_kind s (name_at d s).kind e l refl there is

-- ---- the law of columns

-- what isn't missing and isn't unread has a path
has_path : (has path : Bool) → not has ≡ false → (not (not has) && not path) ≡ false → path ≡ true
has_path true true known read = refl
has_path _ _ known read = absurd cc

pub uses_have_columns : UsesHaveColumns
uses_have_columns d u l apart known read is =
    carried d apart u.read.signal u.read.extension l
    (has_path (has_extension d.device (name_at d u.read.signal) u.read.extension) (has_read_path d.device (name_at d u.read.signal) u.read.extension) known read)
    is
