-- What the code keeps of the pins that signals were given.
use Rattle.std.specs.Prelude.{◌≡◌, ℕ, ◌<◌, Bool, ◌&&◌, Option, Some, is_some, List, [], ◌∷◌, All, not, filter, if◌then◌else◌, length, map, get_or}
use Rattle.placer.specs.Prelude.{Entry, kind_of, Declaration, Statement, SectionTree, ModuleTree, Item, GivenName, no_name}
use Rattle.placer.specs.declared.pins.PlacedPins.{PlacedPins}
use Rattle.placer.specs.PlacedModule.{Pinned, item_at, placed_declaration, placed_declarations, placed_module, placed_section, released}
use Rattle.placer.specs.Placements as placements

-- each signal with its pin
abbrev pub pins_given : PlacedPins → placements.Pins
pins_given g = placements.with_pins g.signals.items g.pins.items

-- each has one, and its number is that of one of so many names
pub record IsEachPinned (count : ℕ) (g : PlacedPins) : Type 0 where
  pub inside : All (λ s. s < count) g.signals.items
  pub each : length g.pins.items ≡ length g.signals.items

-- each name is known as what it is declared as
abbrev pub AreKnown : List Entry → Type 0
AreKnown es = (s : ℕ) → s < length es → kind_of es (get_or es s no_name).name ≡ Some (get_or es s no_name).kind

-- the pin of a name, and of a node
abbrev pub pin_given : List Entry → PlacedPins → List ℕ → Option ℕ
pin_given es g = placements.pin_of es (pins_given g)

abbrev pub node_given : List Entry → PlacedPins → List ℕ → Option ℕ
node_given es g = placements.node_pin_of es (pins_given g)

-- those of some names that are given no pin, as items
abbrev pub items_left : Pinned → List GivenName → List Item
items_left pin xs = map (λ (x : GivenName). item_at x.place x.name x.negated) (filter (λ (x : GivenName). not (is_some (pin x.name))) xs)

-- what represents declarations, and for a section
abbrev pub declaration_given : List Entry → PlacedPins → Declaration → List Declaration
declaration_given es g d = placed_declaration (pin_given es g) (node_given es g) (placements.dc_of es) d

abbrev pub declarations_given : List Entry → PlacedPins → List Declaration → List Declaration
declarations_given es g ds = placed_declarations (pin_given es g) (node_given es g) (placements.dc_of es) ds

abbrev pub section_given : List Entry → PlacedPins → SectionTree → SectionTree
section_given es g x = placed_section (pin_given es g) (node_given es g) (placements.dc_of es) x

-- the equation of a node whose enable isn't assigned
abbrev pub released_if : Entry → (is_enabled : Bool) → List Statement
released_if x is_enabled = if placements.is_node x.kind && not is_enabled then released x.place x.name ∷ [] else []

-- what represents a module with these equations more
abbrev pub module_given : List Entry → PlacedPins → List Statement → ModuleTree → ModuleTree
module_given es g more m = placed_module (pin_given es g) (node_given es g) (placements.dc_of es) more m
