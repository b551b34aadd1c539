-- What a fitting pin gives a signal, and what is promised of a placed module (this project's rule).
use Rattle.std.specs.Prelude.{◌≡◌, ℕ, ◌<◌, Bool, true, false, None, ◌==◌, List, [], length, get_or}
use Rattle.placer.specs.Prelude.{list_any, Table, APin, Entry, ModuleTree, are_numbered, Design, no_name, names_of, name_refusals, IsAssignment, has_wrong_kind, has_read_path}
use Rattle.abel_meaning.specs.Terms.{known_of}
use Rattle.design_checks.specs.LocatedUses.{PlacedUse}
use Rattle.design_checks.specs.SectionUses.{design_uses}
use Rattle.abel_meaning.specs.Reads.{is_read}
use Rattle.placer.specs.Placements.{IsPlacedModule}
use Rattle.placer.specs.Signals.{is_pin_free, pin_fits, to_place, wishes}

-- if it is assigned, its cell can be what it is
abbrev pub FittingHaveKinds : Type 0
FittingHaveKinds =
    (t : Table) (read : Bool) (x : Entry) (pin : ℕ) (negated : Bool) → pin_fits t read x pin ≡ true → x.assigned ≡ true
    → has_wrong_kind t (record x { kind = APin pin negated }) ≡ false

-- if it is read, its bare name has a column
abbrev pub FittingHavePaths : Type 0
FittingHavePaths =
    (t : Table) (read : Bool) (x : Entry) (pin : ℕ) (negated : Bool) → pin_fits t read x pin ≡ true → read ≡ true
    → has_read_path t (record x { kind = APin pin negated }) None ≡ true

-- the pin is free and fits the signal of this number
pub record HasFittingPin (t : Table) (es : List Entry) (read : ℕ → Bool) (signal pin : ℕ) : Type 0 where
  pub free : is_pin_free t es pin ≡ true
  pub fit : pin_fits t (read signal) (get_or es signal no_name) pin ≡ true

-- so it is of each pin of an assignment
abbrev pub AssignedPinsFit : Type 0
AssignedPinsFit =
    (t : Table) (es : List Entry) (read : ℕ → Bool) (pins : List ℕ) → IsAssignment (wishes t es read) pins
    → (k : ℕ) → k < length (to_place t es) → HasFittingPin t es read (get_or (to_place t es) k 0) (get_or pins k 0)

-- what the device must follow is read
abbrev pub UsesAreReads : Type 0
UsesAreReads =
    (d : Design) → d.context.known ≡ known_of d.context.names → (signal : ℕ) → list_any (λ (u : PlacedUse). u.read.signal == signal) (design_uses d) ≡ true
    → is_read d.context.names d.sections signal ≡ true

-- ---- the placed module

-- nothing is refused of its names, and each of its pins has a number
pub record HasNumberedNames (t : Table) (placed : ModuleTree) : Type 0 where
  pub none : name_refusals t placed ≡ []
  pub numbered : are_numbered (names_of t placed) ≡ true

abbrev pub PlacedNamesAreNumbered : Type 0
PlacedNamesAreNumbered = (t : Table) (m placed : ModuleTree) → IsPlacedModule t m placed → HasNumberedNames t placed

-- the signal of this number has a cell that can be what it is, if it is assigned, and a column for its bare name, if it is
-- read
pub record IsFollowed (t : Table) (m placed : ModuleTree) (signal : ℕ) : Type 0 where
  pub kind : (get_or (names_of t placed) signal no_name).assigned ≡ true → has_wrong_kind t (get_or (names_of t placed) signal no_name) ≡ false
  pub path : is_read (names_of t m) m.sections signal ≡ true → has_read_path t (get_or (names_of t placed) signal no_name) None ≡ true

-- so is each signal that was placed
abbrev pub AreFollowed : Table → (m placed : ModuleTree) → Type 0
AreFollowed t m placed =
    (k : ℕ) → k < length (to_place t (names_of t m)) → IsFollowed t m placed (get_or (to_place t (names_of t m)) k 0)

abbrev pub PlacedAreFollowed : Type 0
PlacedAreFollowed = (t : Table) (m placed : ModuleTree) → IsPlacedModule t m placed → AreFollowed t m placed
