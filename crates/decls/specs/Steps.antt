-- How far the declarations of a module were read, and the single steps: the lists of what is refused, step by step.
use Rattle.std.specs.Prelude.{ℕ, suc, ◌==◌, Bool, true, false, not, is_some, List, [], ◌∷◌, ◌++◌, if◌then◌else◌, nat_le}
use Rattle.decls.specs.Prelude.{list_any, Place, Table, Word, Kind, APin, ANode, AConstant, ADeviceName, Words, Entry, kind_of, is_value, names_any, ends_agree, names_between, Tree, Use, OneName, Range, GivenName, entry, no_words}
use Rattle.decls.specs.declared.fault.NameFault.{NameFault}
use Rattle.decls.specs.declared.fault.NameFault.TheVariants as fault
use Rattle.abel_meaning.specs.SignalPins.{is_signal_pin}

-- the names, each as it is declared first; whether a device is; how many nodes were asked for, and which pins; the names
-- that a string with `buffer` is for; and all that is refused so far
pub record Progress : Type 0 where
  pub entries : List Entry
  pub device : Bool
  pub nodes : ℕ
  pub taken : List ℕ
  pub waiting : List GivenName
  pub faults : List NameFault

abbrev pub nothing : Progress
nothing = record { entries = []; device = false; nodes = 0; taken = []; waiting = []; faults = [] }

abbrev pub refuse : NameFault → Progress → Progress
refuse f s = record s { faults = s.faults ++ f ∷ [] }

abbrev pub refuse_all : List NameFault → Progress → Progress
refuse_all fs s = record s { faults = s.faults ++ fs }

abbrev pub refuse_if : Bool → NameFault → Progress → Progress
refuse_if true f s = refuse f s
refuse_if false f s = s

-- one more name, if it is new
abbrev pub entered_if : Bool → Entry → Progress → Progress
entered_if true e s = refuse (fault.Redeclared e.place e.name) s
entered_if false e s = record s { entries = s.entries ++ e ∷ [] }

abbrev pub entered : List ℕ → Place → Kind → Words → Progress → Progress
entered name p k w s = entered_if (is_some (kind_of s.entries name)) (entry name p k w) s

-- a name must be known
abbrev pub undeclared : (Kind → Bool) → Place → List ℕ → Progress → Progress
undeclared test p name s = refuse_if (not (names_any test s.entries name)) (fault.Undeclared p name) s

-- names of a range, up to the first that isn't known
abbrev pub all_known : (Kind → Bool) → Place → List (List ℕ) → Progress → Progress
all_known test p [] s = s
all_known test p (name ∷ names) s =
    if names_any test s.entries name then all_known test p names s else refuse (fault.Undeclared p name) s

abbrev pub range_used : Bool → (first last : Word) → Progress → Progress
range_used false first last s = refuse (fault.BadRange first.place) s
range_used true first last s = all_known is_value first.place (names_between first.text last.text) s

abbrev pub used : Progress → Use → Progress
used s (OneName word) = undeclared is_value word.place word.text s
used s (Range first last) = range_used (ends_agree first.text last.text) first last s

-- a name gets a pin
abbrev pub pin_taken : (good taken : Bool) → Place → List ℕ → ℕ → Progress → Progress
pin_taken false taken p name n s = refuse (fault.BadPin p name) s
pin_taken true true p name n s = refuse (fault.PinTaken p name) s
pin_taken true false p name n s = record s { taken = s.taken ++ n ∷ [] }

abbrev pub on_pin : Table → Place → List ℕ → ℕ → Progress → Progress
on_pin t p name n s = pin_taken (is_signal_pin t n) (list_any (λ m. m == n) s.taken) p name n s

-- a name of a pin declaration with its number
abbrev pub pin_entered : Table → Words → GivenName → ℕ → Progress → Progress
pin_entered t w x n s = entered x.name x.place (APin n x.negated) w (on_pin t x.place x.name n s)

-- one more node
abbrev pub node_counted : Place → List ℕ → Progress → Progress
node_counted p name s = refuse_if (nat_le 128 s.nodes) (fault.TooManyNodes p name) (record s { nodes = suc s.nodes })

-- a name of a node declaration
abbrev pub node_entered : Words → GivenName → Progress → Progress
node_entered w x s = entered x.name x.place (ANode s.nodes) w (node_counted x.place x.name s)

-- a constant
abbrev pub constant_entered : Word → Tree → Progress → Progress
constant_entered name value s = entered name.text name.place (AConstant value) no_words s

-- a device, the first or not
abbrev pub device_counted : Word → Progress → Progress
device_counted name s = record (refuse_if s.device (fault.Redeclared name.place name.text) s) { device = true }

-- the name of a device
abbrev pub device_entered : Word → Progress → Progress
device_entered name s = entered name.text name.place ADeviceName no_words (device_counted name s)
