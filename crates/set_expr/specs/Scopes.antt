-- Names that expressions may be over: pins and nodes for which the leaves of an arena have room, and constants over
-- earlier names (this project's rule).
use Rattle.std.specs.Prelude.{◌≡◌, ℕ, ◌<◌, true, Some, List, slice_get, take}
use Rattle.set_expr.specs.Prelude.{Names, Kind, APin, ANode, AConstant, ADeviceName, Entry, entries_of}
use Rattle.abel_tree.specs.SoundNames.{are_named}
use Rattle.abel_tree.specs.Uses.{uses}

-- pins are below 32, nodes below 128
abbrev pub IsPlacedKind : Kind → Type 0
IsPlacedKind (APin pin negated) = pin < 32
IsPlacedKind (ANode number) = number < 128
IsPlacedKind (AConstant value) = Unit {0}
IsPlacedKind ADeviceName = Unit {0}

abbrev pub ArePlaced : Names → Type 0
ArePlaced n = (k : ℕ) (e : Entry) → slice_get (entries_of n) k ≡ Some e → IsPlacedKind e.kind

-- a constant names earlier names alone
abbrev pub NamesEarlier : (earlier : List Entry) → Kind → Type 0
NamesEarlier earlier (APin pin negated) = Unit {0}
NamesEarlier earlier (ANode number) = Unit {0}
NamesEarlier earlier (AConstant value) = are_named earlier (uses value) ≡ true
NamesEarlier earlier ADeviceName = Unit {0}

-- so does each constant of the list
abbrev pub AreInOrder : List Entry → Type 0
AreInOrder es = (k : ℕ) (e : Entry) → slice_get es k ≡ Some e → NamesEarlier (take k es) e.kind
