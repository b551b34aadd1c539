-- The places at which the sections of a design read signals. Targets and the headers of vectors read nothing, a
-- diagram reads its registers; what is compared with the level of the clock, or of a pin that enables, is no use
-- (this project's rule).
use Rattle.std.specs.Prelude.{ℕ, Bool, true, false, not, Option, None, Some, List, [], if◌then◌else◌}
use Rattle.design_checks.specs.Prelude.{flat_map, list_all, Enable, Row, PinLow, Driven, Released, Table, cell_at, Extension, target_extension, Tree, Context, Design, name_at, targets_of, some_signals, term_of, cell_of}
use Rattle.abel_tree.specs.declared.words.Extension.TheVariants as extension
use Rattle.name_uses.specs.Parts.{PartRole, PartTree, Read, Registers, Value, parts_in_section}
use Rattle.design_checks.specs.LocatedUses.{PlacedUse, uses_used}

-- ---- what is compared

-- no row enables: a pin does, or the cell always drives, or never
abbrev pub is_by_pin : Enable → Bool
is_by_pin (Row row) = false
is_by_pin (PinLow pin) = true
is_by_pin Driven = true
is_by_pin Released = true

abbrev pub is_cell_by_pin : Table → Option ℕ → Bool
is_cell_by_pin t None = false
is_cell_by_pin t (Some c) = is_by_pin (cell_at t c).enable

-- the signal is on a cell that no row enables
abbrev pub is_enabled_by_pin : Context → ℕ → Bool
is_enabled_by_pin d s = is_cell_by_pin d.device (cell_of d.device (name_at d s))

-- an assignment only says what the device does anyway: a clock, or the enable of signals none of which a row enables;
-- a value that another signal takes too is used
abbrev pub is_compared_by : Context → Option Extension → List ℕ → Bool
is_compared_by d (Some extension.Clk) ss = true
is_compared_by d (Some extension.Oe) ss = list_all (is_enabled_by_pin d) ss
is_compared_by d _ ss = false

abbrev pub is_compared : Context → (target : Tree) → Bool
is_compared d target = is_compared_by d (target_extension target) (some_signals (targets_of (term_of d.known target)))

-- ---- uses

-- what is in a section in this role reads signals; the entries of rows and the values of states are constants
abbrev pub is_read : Context → PartRole → Bool
is_read d (Value target) = not (is_compared d target)
is_read d Read = true
is_read d Registers = true
is_read d _ = false

-- those of a part of a section
abbrev pub part_uses : Context → PartTree → List PlacedUse
part_uses d p = if is_read d p.role then flat_map (uses_used d.known) p.uses else []

-- all uses of a design, in order of the source
abbrev pub design_uses : Design → List PlacedUse
design_uses d = flat_map (part_uses d.context) (flat_map parts_in_section d.sections)
