-- What a netlist, and its module, are with any as 0 where bits say which free registers invert (ABEL-HDL Reference Manual,
-- ISTYPE; that a choice is one for all points is this project's rule).
use Rattle.std.specs.Prelude.{◌≡◌, ℕ, Bool, ◌&&◌, nat_lt, length}
use Rattle.source_machine.specs.Prelude.{bits, is_on, Logic, exchanged, Table, ModuleTree, design_of, PlainNetlist, wanted_at, logic_with_any_0}
use Rattle.abel_meaning.specs.Choices.{inverting}
use Rattle.netlist_laws.specs.ExchangedNets.{is_free_wanted}
use Rattle.source_machine.specs.AnyAs0.{netlist_with_any_0}

-- the cells of a device whose bits are 1
abbrev pub inverts_by : Table → (inverted : ℕ) → ℕ → Bool
inverts_by t inverted c = nat_lt c (length t.cells) && is_on (bits 32 inverted) c

-- the free registers of a netlist that are on such cells, by their cells
abbrev pub chosen : Table → PlainNetlist → (inverted : ℕ) → ℕ → Bool
chosen t net inverted c = is_free_wanted (wanted_at net c) && inverts_by t inverted c

-- the netlist with any as 0, if these store the complement
abbrev pub netlist_as_chosen : Table → PlainNetlist → (inverted : ℕ) → Logic
netlist_as_chosen t net inverted = exchanged (chosen t net inverted) (netlist_with_any_0 t net)

-- the module with any as 0, if its free registers on such cells invert
abbrev pub module_as_chosen : Table → ModuleTree → (inverted : ℕ) → Logic
module_as_chosen t m inverted = exchanged (inverting (inverts_by t inverted) (design_of t m).context) (logic_with_any_0 (design_of t m))

-- bit c says that the register of cell c stores the complement
abbrev pub AreChosen : Table → PlainNetlist → (inverted complemented : ℕ) → Type 0
AreChosen t net inverted complemented = (c : ℕ) → is_on (bits 32 complemented) c ≡ chosen t net inverted c
