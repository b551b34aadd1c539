-- The words of the command line (this project's rule).
use Rattle.std.specs.Prelude.{◌≡◌, ℕ, nat_lt, Bool, ◌&&◌, List, [], ◌∷◌, length, Option, Some, None, option_map, option_and_then, if◌then◌else◌, codes, Contains}
use Rattle.abel_commands.specs.Prelude.{is_ascii_digit, list_all, named_device}
use Rattle.std.specs.Str.{bytes_eq}
use Rattle.std.specs.Str.Parse.{digits_value}
use Rattle.pld_base.specs.declared.device_name.DeviceName.{DeviceName}

-- the device that a word names, without regard to case
unfoldable pub word_device : (word : List ℕ) → Option DeviceName
word_device word = named_device word

-- what is done with the sources of a command
pub data Task : Type 0 where
  Compile : (output : List ℕ) → Task
  ListSource : Task
  Simulate : (device : DeviceName) → Task
  Check : (device : DeviceName) → Task
  Demo : (seed : ℕ) → Task
  Decompile : (device : DeviceName) → Task
  Compare : (device : DeviceName) → Task

-- how many sources a task works on
abbrev pub source_count : Task → ℕ
source_count (Compile output) = 1
source_count ListSource = 1
source_count (Simulate device) = 1
source_count (Check device) = 1
source_count (Demo seed) = 0
source_count (Decompile device) = 1
source_count (Compare device) = 2

-- what words ask for: a task, and the names of the files that are its sources, in order
pub record Command : Type 0 where
  pub task : Task
  pub inputs : List (List ℕ)

-- the command of a task with one source
abbrev pub on_file : Task → (input : List ℕ) → Command
on_file task input = record { task = task; inputs = input ∷ [] }

-- the command of a task with two sources
abbrev pub on_files : Task → (first second : List ℕ) → Command
on_files task first second = record { task = task; inputs = first ∷ second ∷ [] }

-- the command of a task without sources
abbrev pub on_nothing : Task → Command
on_nothing task = record { task = task; inputs = [] }

-- five decimal digits at most, or nothing
abbrev pub are_few_digits : List ℕ → Bool
are_few_digits word = nat_lt (length word) 6 && list_all is_ascii_digit word

-- one to five decimal digits, of a number of at most 65535
abbrev pub is_seed : List ℕ → Bool
is_seed word = are_few_digits word && nat_lt 0 (length word) && nat_lt (digits_value 10 word) 65536

-- the number that such a word is
abbrev pub seed_of : List ℕ → Option ℕ
seed_of word = if is_seed word then Some (digits_value 10 word) else None

-- the task on a device that a word names
abbrev pub device_task : (word : List ℕ) → DeviceName → Option Task
device_task word device =
    if bytes_eq word (codes "simulate") then Some (Simulate device)
    else if bytes_eq word (codes "check") then Some (Check device)
    else if bytes_eq word (codes "decompile") then Some (Decompile device)
    else None

-- the command of such a task with one source
abbrev pub on_device : (word : List ℕ) → DeviceName → (input : List ℕ) → Option Command
on_device word device input = option_map (λ task. on_file task input) (device_task word device)

-- the first word is matched exactly, a device's name without regard to case
abbrev pub command_by : (first second third : List ℕ) → Option Command
command_by first second third =
    if bytes_eq first (codes "compile") then Some (on_file (Compile third) second)
    else option_and_then (λ device. on_device first device third) (word_device second)

-- so of two words
abbrev pub command_by_two : (first second : List ℕ) → Option Command
command_by_two first second =
    if bytes_eq first (codes "list") then Some (on_file ListSource second)
    else if bytes_eq first (codes "demo") then option_map (λ seed. on_nothing (Demo seed)) (seed_of second)
    else None

-- so of four words
abbrev pub command_by_four : (first second third fourth : List ℕ) → Option Command
command_by_four first second third fourth =
    if bytes_eq first (codes "compare") then option_map (λ device. on_files (Compare device) third fourth) (word_device second)
    else None

-- the command that the words are
abbrev pub command_of : List (List ℕ) → Option Command
command_of (first ∷ second ∷ []) = command_by_two first second
command_of (first ∷ second ∷ third ∷ []) = command_by first second third
command_of (first ∷ second ∷ third ∷ fourth ∷ []) = command_by_four first second third fourth
command_of _ = None

-- the words are `compile IN OUT`
abbrev pub IsCompile : List (List ℕ) → (input output : List ℕ) → Type 0
IsCompile words input output = command_of words ≡ Some (on_file (Compile output) input)

-- the words are no command
abbrev pub IsNoCommand : List (List ℕ) → Type 0
IsNoCommand words = command_of words ≡ None

-- the words are a command, of which the file of this name is a source
abbrev pub IsInput : List (List ℕ) → List ℕ → Type 0
IsInput words name = (command : Command) × (command_of words ≡ Some command) × Contains command.inputs name
