-- Names that a device and a module can be met with (this project's rule).
use Rattle.std.specs.Prelude.{◌≡◌, ℕ, zero, suc, ◌<◌, ◌≤◌, Bool, true, ◌&&◌, Option, None, Some, List, [], ◌∷◌, ◌++◌, All, length, take, slice_get}
use Rattle.std.specs.List.{list_all}
use Rattle.pld_base.specs.declared.device_name.DeviceName.{DeviceName}
use Rattle.abel_tree.specs.declared.names.Names.{Names}
use Rattle.abel_tree.specs.Tree.{Declaration, ADevice, SomePins, SomeNodes, SomeAttributes, SomeConstants, SomeOptions, DontCareFor, SectionTree, Declarations, Equations, ATable, ADiagram, SomeVectors, DontCareSection, ModuleTree}
use Rattle.abel_tree.specs.Ranges.{range_names}
use Rattle.abel_tree.specs.Uses.{Use, OneName, Range, uses, all_uses, section_uses}
use Rattle.abel_tree.specs.Entries.{Kind, APin, ANode, AConstant, ADeviceName, Entry, entries_of, is_value, names_any}

-- the names that a use represents
abbrev pub used_names : Use → List (List ℕ)
used_names (OneName word) = word.text ∷ []
used_names (Range first last) = range_names first.text last.text

-- each name of a use is a signal or a constant
abbrev pub is_named : List Entry → Use → Bool
is_named es u = list_all (names_any is_value es) (used_names u)

abbrev pub are_named : List Entry → List Use → Bool
are_named es us = list_all (is_named es) us

-- pins are from 1 to the device's last, nodes are below 128, and a constant names earlier names alone
abbrev pub IsSoundKind : (pins : ℕ) → (earlier : List Entry) → Kind → Type 0
IsSoundKind pins earlier (APin pin negated) = (0 < pin) × (pin ≤ pins)
IsSoundKind pins earlier (ANode number) = number < 128
IsSoundKind pins earlier (AConstant value) = are_named earlier (uses value) ≡ true
IsSoundKind pins earlier ADeviceName = Unit {0}

-- the names are those of a device with so many pins
pub record SoundNames (name : DeviceName) (pins : ℕ) (n : Names) : Type 0 where
  pub device : n.device ≡ name
  pub kinds : (k : ℕ) (e : Entry) → slice_get (entries_of n) k ≡ Some e → IsSoundKind pins (take k (entries_of n)) e.kind

-- what the declarations of a module use
abbrev pub declaration_uses : Declaration → List Use
declaration_uses (ADevice name text) = []
declaration_uses (SomePins names numbers attributes) = []
declaration_uses (SomeNodes names numbers attributes) = []
declaration_uses (SomeAttributes names attributes) = []
declaration_uses (SomeConstants names values) = all_uses values
declaration_uses (SomeOptions words) = []
declaration_uses (DontCareFor d) = []

abbrev pub declarations_uses : List Declaration → List Use
declarations_uses [] = []
declarations_uses (d ∷ ds) = declaration_uses d ++ declarations_uses ds

abbrev pub sections_uses : List SectionTree → List Use
sections_uses [] = []
sections_uses (Declarations ds ∷ ss) = declarations_uses ds ++ sections_uses ss
sections_uses (s ∷ ss) = section_uses s ++ sections_uses ss

abbrev pub module_uses : ModuleTree → List Use
module_uses m = declarations_uses m.decls ++ sections_uses m.sections

-- every name in the expressions and targets of a module is a signal or a constant
abbrev pub IsNamed : Names → ModuleTree → Type 0
IsNamed n m = are_named (entries_of n) (module_uses m) ≡ true
