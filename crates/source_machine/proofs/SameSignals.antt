-- A signal asks the same at two points that agree at what it names.
use Rattle.std.proofs.Common.{◌≡◌, ℕ, ◌+◌, ◌<◌, Bool, true, false, not, ◌&&◌, if◌then◌else◌, length, Option, Some, None, refl, ap, sym, ◌∙◌}
use Rattle.source_machine.proofs.Common.{or_left, or_right, true≢false, is_on, Levels, SameAt, Row, PinLow, Driven, Released, IsDevice, complement_if, Table, cell_at, no_cell, Leaf, leaf_value, names, Wanted, PlainNetlist, no_function, node_at, wanted_at, as_named, drives, enable_of, netlist_stores, netlist_values, netlist_names, function_names, names_if_any, IsReadable, IsSound, value_same, cell_named, node_names, sound_at, data_with_any_0, level_with_any_0, netlist_lookups}
use Rattle.pld_machine.specs.declared.logic.Slot.TheVariants as slot
use Rattle.pld_device.specs.declared.enable.Enable.{Enable}
use Rattle.netlist_laws.proofs.CellRanks.{enable_names, wanted_enable_sound}
use Rattle.pld_device.specs.Registers.{stores_by}
use Rattle.abel_meaning.specs.NetlistLogic.{registers_as}

if_same : (r x y u v : Bool) → (r ≡ true → x ≡ y) → (r ≡ false → u ≡ v) → (if r then x else u) ≡ (if r then y else v)
if_same true x y u v first second = first refl
if_same false x y u v first second = second refl

-- the level of a cell that is assigned nothing depends on Q alone, and only if it is a register
spare_same : (register : Bool) (q r : Bool) → (register ≡ true → q ≡ r) → not (register && q) ≡ not (register && r)
spare_same true q r same = ap not (same refl)
spare_same false q r same = refl

module _ (t : Table) (laws : IsDevice t) (net : PlainNetlist) (sound : IsSound t net) (a b : Levels) where
  -- the points agree at what the signal names
  abbrev pub AgreesAt : ℕ → Type 0
  AgreesAt v = (l : Leaf) → IsReadable t net l → netlist_names t net v l ≡ true → leaf_value a l ≡ leaf_value b l

  pub node_same : (n : ℕ) → n < length net.nodes → AgreesAt (length t.cells + n) → netlist_values net a n ≡ netlist_values net b n
  node_same n within agree =
      ap (complement_if (node_at net n).complement)
      (value_same (node_at net n).one a b
      (λ l named. agree l ((sound.nodes n no_function within).one l named)
      (rw (node_names t net n l) (or_left (names (node_at net n).one l) (names (node_at net n).any l) named))))

  module _ (c : ℕ) (within : c < length t.cells) (agree : AgreesAt c) (pins : (pin : ℕ) → (cell_at t c).enable ≡ PinLow pin → is_on a.pins pin ≡ is_on b.pins pin) (q : netlist_stores t net c ≡ true → is_on a.q c ≡ is_on b.q c) where
    enable_same : (found : Option Wanted) (e : Enable) → wanted_at net c ≡ found → (cell_at t c).enable ≡ e → drives a found e ≡ drives b found e
    enable_same None (Row row) is at = refl
    enable_same None (PinLow pin) is at = ap not (pins pin at)
    enable_same (Some w) (PinLow pin) is at = ap not (pins pin at)
    enable_same None Driven is at = refl
    enable_same (Some w) Driven is at = refl
    enable_same None Released is at = refl
    enable_same (Some w) Released is at = refl
    enable_same (Some w) (Row row) is at =
        value_same (enable_of w) a b
        (λ l named. agree l (wanted_enable_sound t net c w (sound_at t net sound c w is) l named)
        (rw (cell_named t net c l within, is) (or_left (names_if_any w.enable l) (not w.registered && function_names w.function l) (enable_names w.enable l named))))

    level_same : (found : Option Wanted) → wanted_at net c ≡ found → level_with_any_0 a (cell_at t c).kinds c found ≡ level_with_any_0 b (cell_at t c).kinds c found
    level_same None is = spare_same (stores_by (cell_at t c).kinds false) (is_on a.q c) (is_on b.q c) (λ register. q (ap (registers_as (cell_at t c).kinds) is ∙ register))
    level_same (Some w) is =
        if_same w.registered (complement_if (not w.buffer) (is_on a.q c)) (complement_if (not w.buffer) (is_on b.q c)) (data_with_any_0 a w) (data_with_any_0 b w)
        (λ kept. ap (complement_if (not w.buffer)) (q (rw is kept)))
        (λ plain. ap (λ v. as_named w (complement_if w.function.complement v))
        (value_same w.function.one a b
        (λ l named. agree l ((sound_at t net sound c w is).law.function.one l named)
        (rw (cell_named t net c l within, is)
        (or_right (names_if_any w.enable l) (not w.registered && function_names w.function l)
        (rw (plain, or_left (names w.function.one l) (names w.function.any l) named) refl))))))

    pub cell_same : (order : _) → SameAt (netlist_lookups t net order) (slot.Cell c) a b
    cell_same order = (enable_same (wanted_at net c) (cell_at t c).enable refl refl, λ on. level_same (wanted_at net c) refl)
