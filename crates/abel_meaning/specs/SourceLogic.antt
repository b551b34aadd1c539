-- A design as a logic: what it asks of each point (ABEL-HDL Reference Manual, equations; the devices' datasheets).
use Rattle.std.specs.Prelude.{ℕ, ◌==◌, Bool, true, false, not, if◌then◌else◌, Option, None, Some, is_some, List, length, position, ◌&&◌}
use Rattle.abel_meaning.specs.Prelude.{is_on, same_level, Levels, Logic, NodeValues, complement_if, Table, cell_at, Kind, APin, ANode, Entry, is_stored, follows_q, ModuleTree}
use Rattle.abel_tree.specs.declared.words.Extension.TheVariants as extension
use Rattle.abel_meaning.specs.Designs.{Context, Design, design_of, name_at}
use Rattle.abel_meaning.specs.Contributions.{Contribution}
use Rattle.abel_meaning.specs.AtPoints.{truth_at, given_at}
use Rattle.abel_meaning.specs.Functions.{Function, function_of, allows, value_with_any_0, is_raw_signal}
use Rattle.abel_meaning.specs.Controls.{signal_on, cell_stores, cell_is_enabled, register_control}

-- a set of values for the signals, as a test
abbrev pub FunctionReading : Type 0
FunctionReading = Function Bool → Bool → Bool

-- the one value that counts any as 0
abbrev pub takes_any_as_0 : FunctionReading
takes_any_as_0 f value = same_level value (value_with_any_0 f)

-- the pin is declared with `!`
abbrev pub is_negated : Kind → Bool
is_negated (APin pin negated) = negated
is_negated _ = false

-- the values of a signal at the point
abbrev pub signal_allows : FunctionReading → Context → Levels → List (Contribution Bool) → ℕ → Bool → Bool
signal_allows choice d at cs s value = choice (function_of (truth_at d at) cs s) value

-- the pin of a signal: its pin polarity if it is stored, else a value that the name may have
abbrev pub assigned_level : FunctionReading → Context → Levels → List (Contribution Bool) → (cell signal : ℕ)
    → Entry → Bool → Bool
assigned_level choice d at cs c s x level =
    if is_stored x then same_level level (complement_if (not (follows_q x)) (is_on at.q c))
    else signal_allows choice d at cs s (complement_if (is_negated x.kind) level)

-- the levels of a cell's pin: a register that nothing assigns inverts, and any other such cell has level 1 if it drives at all
abbrev pub pin_allows : FunctionReading → Context → Levels → List (Contribution Bool) → (cell : ℕ) → Option ℕ
    → Bool → Bool
pin_allows choice d at cs c None level = same_level level (not (cell_stores d c && is_on at.q c))
pin_allows choice d at cs c (Some s) level = assigned_level choice d at cs c s (name_at d s) level

-- the next Q: for raw data the value itself, else the one with which the name has the value; 0 if nothing is assigned
abbrev pub q_complements : (raw : Bool) → Entry → Bool
q_complements true x = false
q_complements false x = complement_if (is_negated x.kind) (not (follows_q x))

-- the next Qs of a register
abbrev pub next_allows : FunctionReading → Context → Levels → List (Contribution Bool) → Option ℕ → Bool → Bool
next_allows choice d at cs None q = not q
next_allows choice d at cs (Some s) q =
    signal_allows choice d at cs s (complement_if (q_complements (is_raw_signal cs s) (name_at d s)) q)

-- the name is declared as this node
abbrev pub is_node_number : ℕ → Kind → Bool
is_node_number n (ANode other) = other == n
is_node_number n _ = false

-- the signal that is a node
abbrev pub node_signal : Context → (node : ℕ) → Option ℕ
node_signal d n = position (λ (x : Entry). is_node_number n x.kind) d.names

-- a node that is assigned nothing is 0
abbrev pub node_allows : FunctionReading → Context → Levels → List (Contribution Bool) → Option ℕ → Bool → Bool
node_allows choice d at cs None value = not value
node_allows choice d at cs (Some s) value = signal_allows choice d at cs s value

-- a design as a logic, cells in the device's order
abbrev pub logic_by : FunctionReading → Design → Logic
logic_by choice d =
    record {
      cells = length d.context.device.cells;
      pin = λ c. (cell_at d.context.device c).pin;
      stores = cell_stores d.context;
      clock = d.context.device.clock;
      is_node = λ n. is_some (node_signal d.context n);
      enabled = λ at c. cell_is_enabled (truth_at d.context at) d.context at (given_at d at) c;
      allows_level = λ at c level. pin_allows choice d.context at (given_at d at) c (signal_on d.context c) level;
      allows_node = λ at n value. node_allows choice d.context at (given_at d at) (node_signal d.context n) value;
      reset = λ at c. register_control (truth_at d.context at) d.context (given_at d at) extension.Ar (signal_on d.context c);
      preset = λ at c. register_control (truth_at d.context at) d.context (given_at d at) extension.Sp (signal_on d.context c);
      allows_next = λ at c q. next_allows choice d.context at (given_at d at) (signal_on d.context c) q;
    }

-- what a design asks of each point
abbrev pub design_logic : Design → Logic
design_logic d = logic_by allows d

-- what it asks if any counts as 0
abbrev pub logic_with_any_0 : Design → Logic
logic_with_any_0 d = logic_by takes_any_as_0 d

-- the logic of a module for a device
abbrev pub source_logic : Table → ModuleTree → Logic
source_logic t m = design_logic (design_of t m)

-- the value of a node with any as 0, by the contributions at the point
abbrev pub node_value_by : Context → Levels → List (Contribution Bool) → Option ℕ → Bool
node_value_by d at cs None = false
node_value_by d at cs (Some s) = value_with_any_0 (function_of (truth_at d at) cs s)

-- the value that represents each node of a design, and of a module
abbrev pub node_values : Design → NodeValues
node_values d at n = node_value_by d.context at (given_at d at) (node_signal d.context n)

abbrev pub source_values : Table → ModuleTree → NodeValues
source_values t m = node_values (design_of t m)
