-- The placed module of a module, and why there may be none (this project's rule).
use Rattle.std.specs.Prelude.{◌≡◌, ℕ, Bool, true, false, not, ◌&&◌, None, Some, List, [], ◌∷◌, if◌then◌else◌, map, get_or, bytes_eq}
use Rattle.placer.specs.Prelude.{Table, Kind, ANode, Entry, names_any, Statement, ModuleTree, no_name, names_of, name_refusals, IsTaken, IsKept}
use Rattle.abel_meaning.specs.Reads.{is_read, has_enable}
use Rattle.placer.specs.PlacedModule.{Pinned, placed_module, released}
use Rattle.placer.specs.Signals.{to_place, wishes}

-- ---- signals with pins

-- signals by their numbers, with their pins
abbrev pub Pins : Type 0
Pins = List (ℕ × ℕ)

abbrev pub with_pins : List ℕ → List ℕ → Pins
with_pins [] ps = []
with_pins (s ∷ ss) [] = []
with_pins (s ∷ ss) (p ∷ ps) = (s, p) ∷ with_pins ss ps

abbrev pub is_node : Kind → Bool
is_node (ANode n) = true
is_node _ = false

-- the pin of a name
abbrev pub pin_of : List Entry → Pins → Pinned
pin_of es [] name = None
pin_of es (x ∷ xs) name = if bytes_eq name (get_or es x.0 no_name).name then Some x.1 else pin_of es xs name

-- the pin of a node
abbrev pub node_pin_of : List Entry → Pins → Pinned
node_pin_of es xs name = if names_any is_node es name then pin_of es xs name else None

-- whether a name has `dc`
abbrev pub dc_of : List Entry → List ℕ → Bool
dc_of [] name = false
dc_of (e ∷ es) name = if bytes_eq name e.name then e.words.dc else dc_of es name

-- an equation for each node among them whose enable the module doesn't assign
abbrev pub all_released : List Entry → (ℕ → Bool) → Pins → List Statement
all_released es enabled [] = []
all_released es enabled (x ∷ xs) =
    if is_node (get_or es x.0 no_name).kind && not (enabled x.0)
    then released (get_or es x.0 no_name).place (get_or es x.0 no_name).name ∷ all_released es enabled xs
    else all_released es enabled xs

-- ---- a module

-- the wishes of its signals
abbrev pub module_wishes : Table → ModuleTree → List (List ℕ)
module_wishes t m = wishes t (names_of t m) (is_read (names_of t m) m.sections)

-- it with these pins: itself if there aren't any
abbrev pub placed_with : List Entry → Pins → ModuleTree → ModuleTree
placed_with es [] m = m
placed_with es (x ∷ xs) m =
    placed_module (pin_of es (x ∷ xs)) (node_pin_of es (x ∷ xs)) (dc_of es) (all_released es (has_enable es m.sections) (x ∷ xs)) m

-- this is it with the pins of the assignment that is taken
pub record IsPinned (t : Table) (m placed : ModuleTree) : Type 0 where
  pub pins : List ℕ
  pub taken : IsTaken (module_wishes t m) pins
  pub is : placed ≡ placed_with (names_of t m) (with_pins (to_place t (names_of t m)) pins) m

-- so it is, and nothing is refused of its names
pub record IsPlacedModule (t : Table) (m placed : ModuleTree) : Type 0 where
  pub names : name_refusals t m ≡ []
  pub pinned : IsPinned t m placed

-- nothing is refused of its names, and these signals, by their numbers, have but so many fitting pins
pub record HasNoPlacement (t : Table) (m : ModuleTree) (signals : List ℕ) (places : ℕ) : Type 0 where
  pub names : name_refusals t m ≡ []
  pub set : List ℕ
  pub kept : IsKept (module_wishes t m) set places
  pub are : signals ≡ map (λ k. get_or (to_place t (names_of t m)) k 0) set
