-- A run of the program as a whole (this project's rule).
use Rattle.std.specs.Prelude.{◌≡◌, ℕ, ◌⊎◌, List, Option, Some, None}
use Rattle.abel_cli.specs.Prelude.{Map, SameFiles, SameBut, HasRisen, HasStayed, file_table, Ending, memory_line, usage_ending, file_fault, source_at, Command, Task, Compile, ListSource, Simulate, Check, Demo, Decompile, Compare, command_of, IsInput, IsNoCommand}
use Rattle.abel_cli.specs.Call.{Asked, Heard}
use Rattle.abel_commands.specs.CheckCommand.{CheckEnds, CheckMeans}
use Rattle.abel_commands.specs.CompareCommand.{CompareEnds, CompareMeans}
use Rattle.abel_commands.specs.DecompileCommand.{DecompileEnds, DecompileMeans}
use Rattle.abel_commands.specs.DemoCommand.{DemoEnds, DemoMeans}
use Rattle.abel_cli.specs.Telling.{Puts, Tells, TakesFront}
use Rattle.abel_commands.specs.SimulateCommand.{SimulateEnds, SimulateMeans}
use Rattle.abel_commands.specs.SourceCommands.{SourceEnds, SourceMeans, written, listed}
use Rattle.abel_cli.specs.Sources.{sources_of}

-- ---- by task: the only definitions of a run that name tasks

-- a task ends so, with these sources
abbrev pub Ends : Task → (sources : List (List ℕ)) → Ending → Type 0
Ends (Compile output) sources e = SourceEnds (source_at sources 0) (written output) e
Ends ListSource sources e = SourceEnds (source_at sources 0) listed e
Ends (Simulate device) sources e = SimulateEnds (file_table device (source_at sources 0)) (source_at sources 0) e
Ends (Check device) sources e = CheckEnds (file_table device (source_at sources 0)) (source_at sources 0) e
Ends (Demo seed) sources e = DemoEnds seed e
Ends (Decompile device) sources e = DecompileEnds (file_table device (source_at sources 0)) (source_at sources 0) e
Ends (Compare device) sources e = CompareEnds (file_table device (source_at sources 0)) (source_at sources 0) (source_at sources 1) e

-- what that means
abbrev pub Means : Task → (sources : List (List ℕ)) → Ending → Type 0
Means (Compile output) sources e = SourceMeans (source_at sources 0) (written output) e
Means ListSource sources e = SourceMeans (source_at sources 0) listed e
Means (Simulate device) sources e = SimulateMeans (file_table device (source_at sources 0)) (source_at sources 0) e
Means (Check device) sources e = CheckMeans (file_table device (source_at sources 0)) (source_at sources 0) e
Means (Demo seed) sources e = DemoMeans seed e
Means (Decompile device) sources e = DecompileMeans (file_table device (source_at sources 0)) (source_at sources 0) e
Means (Compare device) sources e = CompareMeans (file_table device (source_at sources 0)) (source_at sources 0) (source_at sources 1) e

-- ---- whatever the task

-- a command ends so with some sources, which are its own if the files show them
pub record EndsOn (told : Type 0) (files : Map) (command : Command) (e : Ending) : Type 0 where
  pub sources : List (List ℕ)
  pub own : told → sources ≡ sources_of files command
  pub ends : Ends command.task sources e

-- the ending that a command, or none, calls for
abbrev pub CallsFor : (told : Type 0) → Map → Option Command → Ending → Type 0
CallsFor told files None e = e ≡ usage_ending
CallsFor told files (Some command) e = EndsOn told files command e

-- words and files call for this ending
abbrev pub IsCalledFor : Asked → Ending → Type 0
IsCalledFor a e = CallsFor a.told a.old (command_of a.words) e

-- the ending that words and files call for occurred, with what it puts, and no call of the files
-- failed
pub record Ended (a : Asked) (e : Ending) : Type 0 where
  pub called : IsCalledFor a e
  pub stayed : HasStayed a.faults
  pub stayed_write : HasStayed a.write_faults
  pub files : a.told → Puts e.output a.old a.new

-- a source was not read
pub record Unread (a : Asked) (e : Ending) : Type 0 where
  pub name : List ℕ
  pub is : e ≡ file_fault name
  pub reads : IsInput a.words name
  pub rose : HasRisen a.faults
  pub files : a.told → SameFiles a.old a.new

-- the ending that words and files call for has an output, which was not written
pub record Unwritten (a : Asked) (e : Ending) : Type 0 where
  pub name : List ℕ
  pub is : e ≡ file_fault name
  pub wanted : Ending
  pub called : IsCalledFor a wanted
  pub bytes : List ℕ
  pub output : wanted.output ≡ Some (record { name = name; bytes = bytes })
  pub rose : HasRisen a.faults
  pub rose_write : HasRisen a.write_faults
  pub files : a.told → SameBut name a.old a.new

-- the ending that occurred, before it is reported
abbrev pub Comes : Asked → Ending → Type 0
Comes a e = Ended a e ⊎ (Unread a e ⊎ Unwritten a e)

-- memory ran out before an ending occurred
pub record Stops (a : Asked) (h : Heard) : Type 0 where
  pub memory : h.status ≡ 8
  pub no_usage : IsNoCommand a.words → ⊥
  pub leaves : a.told → SameFiles a.old a.new
  pub tells : h.told → TakesFront memory_line h.old h.new

-- a run: an ending was reached and reported, or memory ran out before that
abbrev pub Runs : Asked → Heard → Type 0
Runs a h = ((e : Ending) × Comes a e × Tells e h) ⊎ Stops a h
