-- How signals are assigned, and what may not differ (ABEL-HDL Reference Manual, equations; one kind for each signal and one
-- polarity for each control are this project's rule).
use Rattle.std.specs.Prelude.{◌≡◌, ℕ, ◌==◌, Bool, true, false, ◌&&◌, ◌||◌, Option, None, Some, List, [], ◌∷◌, ◌++◌, if◌then◌else◌}
use Rattle.section_targets.specs.Prelude.{Place, Table, differ, Kind, APin, ANode, AConstant, ADeviceName, Entry, Context, name_at, SectionFault, NotAnOutput, MixedAssignment}
use Rattle.std.specs.List.{find, list_any}
use Rattle.pld_device.specs.declared.cell.Cell.{Cell}
use Rattle.abel_tree.specs.declared.words.Extension.{Extension}
use Rattle.abel_tree.specs.declared.words.Extension.TheVariants as extension
use Rattle.abel_tree.specs.Extensions.{is_data, is_raw}
use Rattle.section_targets.specs.declared.aim.Aim.{Aim}
use Rattle.section_targets.specs.declared.manner.Manner.{Manner}

-- on the clock: by its sign, or as the raw input of a register
abbrev pub on_clock : Manner → Bool
on_clock m = m.clocked || is_raw m.extension

-- what an extension names of a signal as a target, by number: 0 is its data, the others are its controls
abbrev pub part_of : Option Extension → ℕ
part_of None = 0
part_of (Some extension.D) = 0
part_of (Some extension.Clk) = 1
part_of (Some extension.Oe) = 2
part_of (Some extension.Ar) = 3
part_of (Some extension.Sp) = 4
part_of (Some extension.Q) = 5
part_of (Some extension.Fb) = 6
part_of (Some extension.Pin) = 7

-- how the same part of the signal is assigned first
abbrev pub is_same_part : Manner → ℕ → (part : ℕ) → Bool
is_same_part m s part = (m.signal == s) && (part_of m.extension == part)

abbrev pub first_manner : List Manner → ℕ → (part : ℕ) → Option Manner
first_manner ms s part = find (λ (m : Manner). is_same_part m s part) ms

-- these assign each part of each signal first as those do
abbrev pub AreFirsts : (firsts all : List Manner) → Type 0
AreFirsts firsts all = (s part : ℕ) → first_manner firsts s part ≡ first_manner all s part

-- data on the clock and not, or to the name and to the raw input
abbrev pub differs_as_data : Manner → Manner → Bool
differs_as_data f m = differ (on_clock f) (on_clock m) || differ (is_raw f.extension) (is_raw m.extension)

-- a later target differs from the first of the same part; data may be of either polarity
abbrev pub differs_from : Option Manner → Manner → Bool
differs_from None m = false
differs_from (Some f) m = if is_data m.extension then differs_as_data f m else differ f.complement m.complement

-- data are on the clock just if the signal is registered, and controls are not
abbrev pub is_against_kind : Entry → Manner → Bool
is_against_kind x m = if is_data m.extension then differ x.words.registered (on_clock m) else m.clocked

-- refused as assigned in two ways, if these were assigned before
abbrev pub mixed : List Manner → Entry → Place → Manner → List SectionFault
mixed before x p m =
    if differs_from (first_manner before m.signal (part_of m.extension)) m || is_against_kind x m
    then MixedAssignment p m.signal ∷ [] else []

-- some cell has this pin
abbrev pub is_cell_pin : Table → ℕ → Bool
is_cell_pin t pin = list_any (λ (c : Cell). c.pin == pin) t.cells

-- a node, or the pin of a cell
abbrev pub is_output_kind : Table → Kind → Bool
is_output_kind t (APin pin negated) = is_cell_pin t pin
is_output_kind t (ANode number) = true
is_output_kind t (AConstant value) = false
is_output_kind t ADeviceName = false

-- `.Q`, `.FB` and `.PIN` are no targets
abbrev pub may_be_assigned : Option Extension → Bool
may_be_assigned (Some extension.Q) = false
may_be_assigned (Some extension.Fb) = false
may_be_assigned (Some extension.Pin) = false
may_be_assigned _ = true

-- a control is beside data of its signal
abbrev pub is_output : Table → Entry → Option Extension → Bool
is_output t x e = is_output_kind t x.kind && (may_be_assigned e && (is_data e || x.assigned))

-- refused as no output
abbrev pub no_output : Table → Entry → Place → Manner → List SectionFault
no_output t x p m = if is_output t x m.extension then [] else NotAnOutput p (Some m.signal) ∷ []

-- how the signals of a target are assigned
abbrev pub manner_of : Option Extension → (complement clocked : Bool) → Aim → Manner
manner_of e complement clocked a =
    record { signal = a.signal; extension = e; complement = complement; clocked = clocked }

-- what is refused of the signals of a target, one after another
abbrev pub aims_refused : Context → List Manner → Option Extension → (complement clocked : Bool) → List Aim
    → List SectionFault
aims_refused d before e complement clocked [] = []
aims_refused d before e complement clocked (a ∷ aims) =
    (no_output d.device (name_at d a.signal) a.place (manner_of e complement clocked a)
    ++ mixed before (name_at d a.signal) a.place (manner_of e complement clocked a))
    ++ aims_refused d (before ++ manner_of e complement clocked a ∷ []) e complement clocked aims
