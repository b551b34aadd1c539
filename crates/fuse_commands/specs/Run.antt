-- A run of the program as a whole (this project's rule).
use Rattle.std.specs.Prelude.{◌≡◌, ℕ, ◌⊎◌, List, Option, Some, None}
use Rattle.fuse_commands.specs.Prelude.{Asked, Ending, HasRisen, HasStayed, Heard, Map, Puts, SameBut, SameFiles, TakesFront, Tells, bytes_at, ends, file_fault, memory_line, file_table, table_of, too_long_line}
use Rattle.fuse_commands.specs.Sources.{HasLongFile, IsInput, second_of}
use Rattle.fuse_commands.specs.Usage.{other_ending}
use Rattle.fuse_commands.specs.Words.{Command, Task, CompareFiles, GradeFile, PortFile, ReadDump, VectorFile, WriteForm, command_of}
use Rattle.form_commands.specs.Reading.{ReadEnds}
use Rattle.form_commands.specs.Writing.{WriteEnds}
use Rattle.grade_report.specs.Grading.{GradeEnds}
use Rattle.pair_commands.specs.CompareCommand.{CompareEnds}
use Rattle.pair_commands.specs.PortCommand.{PortEnds}
use Rattle.vector_report.specs.Vectoring.{VectorsEnd}

-- ---- by task: the only definition of a run that names tasks

-- a task ends so, with the bytes of its files
abbrev pub Ends : Task → (first second : List ℕ) → Ending → Type 0
Ends (GradeFile device) first second e = GradeEnds (file_table device first) first e
Ends (VectorFile device most output) first second e = VectorsEnd (file_table device first) most first output e
Ends (PortFile from to output) first second e = PortEnds from to output first e
Ends (CompareFiles from to) first second e = CompareEnds from to first second e
Ends (ReadDump device mends output) first second e = ReadEnds (table_of device) mends output first e
Ends (WriteForm device wanted output) first second e = WriteEnds (file_table device first) wanted output first e

-- ---- whatever the task

-- a command ends so with some bytes, which are those of its files if these show them
pub record EndsWithin (told : Type 0) (files : Map) (command : Command) (e : Ending) : Type 0 where
  pub first : List ℕ
  pub second : List ℕ
  pub own : told → (first ≡ bytes_at files command.first) × (second ≡ second_of files command.second)
  pub ends : Ends command.task first second e

-- or one of its files is too long
abbrev pub EndsOn : (told : Type 0) → Map → Command → Ending → Type 0
EndsOn told files command e =
    EndsWithin told files command e ⊎ ((told → HasLongFile files command) × (e ≡ ends 4 too_long_line))

-- the ending that words call for, which are a command, or none
abbrev pub CallsFor : (told : Type 0) → Map → (words : List (List ℕ)) → Option Command → Ending → Type 0
CallsFor told files words None e = e ≡ other_ending words
CallsFor told files words (Some command) e = EndsOn told files command e

-- words and files call for this ending
abbrev pub IsCalledFor : Asked → Ending → Type 0
IsCalledFor a e = CallsFor a.told a.old a.words (command_of a.words) e

-- it occurred, with what it puts, and no call of the files failed
pub record Ended (a : Asked) (e : Ending) : Type 0 where
  pub called : IsCalledFor a e
  pub stayed : HasStayed a.faults
  pub stayed_write : HasStayed a.write_faults
  pub files : a.told → Puts e.output a.old a.new

-- a file was not read
pub record Unread (a : Asked) (e : Ending) : Type 0 where
  pub command : Command
  pub words : command_of a.words ≡ Some command
  pub name : List ℕ
  pub is : e ≡ file_fault name
  pub reads : IsInput command name
  pub rose : HasRisen a.faults
  pub files : a.told → SameFiles a.old a.new

-- the ending that words and files call for has an output, which was not written
pub record Unwritten (a : Asked) (e : Ending) : Type 0 where
  pub name : List ℕ
  pub is : e ≡ file_fault name
  pub wanted : Ending
  pub called : IsCalledFor a wanted
  pub bytes : List ℕ
  pub output : wanted.output ≡ Some (record { name = name; bytes = bytes })
  pub rose : HasRisen a.faults
  pub rose_write : HasRisen a.write_faults
  pub files : a.told → SameBut name a.old a.new

-- the ending that occurred, before it is reported
abbrev pub Comes : Asked → Ending → Type 0
Comes a e = Ended a e ⊎ (Unread a e ⊎ Unwritten a e)

-- memory ran out before an ending occurred
pub record Stops (a : Asked) (h : Heard) : Type 0 where
  pub memory : h.status ≡ 8
  pub leaves : a.told → SameFiles a.old a.new
  pub tells : h.told → TakesFront memory_line h.old h.new

-- a run: an ending was reached and reported, or memory ran out before that
abbrev pub Runs : Asked → Heard → Type 0
Runs a h = ((e : Ending) × Comes a e × Tells e h) ⊎ Stops a h
