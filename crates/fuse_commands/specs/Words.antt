-- The words of the command line (this project's rule).
use Rattle.std.specs.Prelude.{ℕ, Bool, List, [], ◌∷◌, Option, Some, None, option_and_then, option_map, if◌then◌else◌, codes}
use Rattle.std.specs.Str.{bytes_eq}
use Rattle.form_commands.specs.Writing.{Wanted}
use Rattle.fuse_commands.specs.FormWords.{mends_of, wanted_of}
use Rattle.fuse_commands.specs.Prelude.{named_device, short_number}
use Rattle.pld_base.specs.declared.device_name.DeviceName.{DeviceName}

-- what is done with the files of a command
pub data Task : Type 0 where
  GradeFile : (device : DeviceName) → Task
  VectorFile : (device : DeviceName) → (most : ℕ) → (output : List ℕ) → Task
  PortFile : (from to : DeviceName) → (output : List ℕ) → Task
  CompareFiles : (from to : DeviceName) → Task
  ReadDump : (device : DeviceName) → (mends : Bool) → (output : List ℕ) → Task
  WriteForm : (device : DeviceName) → (wanted : Wanted) → (output : List ℕ) → Task

-- what words ask for: a task, and the names of the files that it reads, one or two
pub record Command : Type 0 where
  pub task : Task
  pub first : List ℕ
  pub second : Option (List ℕ)

-- the command of a task that reads one file, and of one that reads two
abbrev pub on_file : Task → (input : List ℕ) → Command
on_file task input = record { task = task; first = input; second = None }

abbrev pub on_files : Task → (first second : List ℕ) → Command
on_files task first second = record { task = task; first = first; second = Some second }

-- ---- by command; a device's name without regard to case, all other words exactly

-- grade DEVICE IN
abbrev pub grade_words : List (List ℕ) → Option Command
grade_words (device ∷ input ∷ []) = option_map (λ d. on_file (GradeFile d) input) (named_device device)
grade_words _ = None

-- with so many vectors at most
abbrev pub vectors_of : (most : ℕ) → (device input output : List ℕ) → Option Command
vectors_of most device input output = option_map (λ d. on_file (VectorFile d most output) input) (named_device device)

-- vectors DEVICE IN OUT, and vectors -at-most N DEVICE IN OUT
abbrev pub vectors_words : List (List ℕ) → Option Command
vectors_words (device ∷ input ∷ output ∷ []) = vectors_of 9999 device input output
vectors_words (option ∷ number ∷ device ∷ input ∷ output ∷ []) =
    if bytes_eq option (codes "-at-most")
    then option_and_then (λ most. vectors_of most device input output) (short_number number)
    else None
vectors_words _ = None

-- port FROM IN TO OUT
abbrev pub port_words : List (List ℕ) → Option Command
port_words (from ∷ input ∷ to ∷ output ∷ []) =
    option_and_then (λ f. option_map (λ t. on_file (PortFile f t output) input) (named_device to)) (named_device from)
port_words _ = None

-- compare FROM A TO B
abbrev pub compare_words : List (List ℕ) → Option Command
compare_words (from ∷ a ∷ to ∷ b ∷ []) =
    option_and_then (λ f. option_map (λ t. on_files (CompareFiles f t) a b) (named_device to)) (named_device from)
compare_words _ = None

-- read DEVICE IN OUT [mend]
abbrev pub read_words : List (List ℕ) → Option Command
read_words (device ∷ input ∷ output ∷ options) =
    option_and_then (λ d. option_map (λ mends. on_file (ReadDump d mends output) input) (mends_of options)) (named_device device)
read_words _ = None

-- write DEVICE IN OUT FORM [sign TEXT] [secured]
abbrev pub write_words : List (List ℕ) → Option Command
write_words (device ∷ input ∷ output ∷ form ∷ options) =
    option_and_then (λ d. option_map (λ wanted. on_file (WriteForm d wanted output) input) (wanted_of form options)) (named_device device)
write_words _ = None

-- ---- all commands

-- the command that the words are
abbrev pub command_of : List (List ℕ) → Option Command
command_of [] = None
command_of (name ∷ words) =
    if bytes_eq name (codes "grade") then grade_words words
    else if bytes_eq name (codes "vectors") then vectors_words words
    else if bytes_eq name (codes "port") then port_words words
    else if bytes_eq name (codes "compare") then compare_words words
    else if bytes_eq name (codes "read") then read_words words
    else if bytes_eq name (codes "write") then write_words words
    else None
