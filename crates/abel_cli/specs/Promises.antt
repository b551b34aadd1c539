-- What a run promises, whatever the command (this project's rule).
use Rattle.std.specs.Prelude.{◌≡◌, ℕ, ◌≤◌, ◌⊎◌, List, ◌++◌, Option, Some, None}
use Rattle.abel_cli.specs.Prelude.{Map, SameFiles, SameBut, HasRisen, HasStayed, Ending, Output, memory_line, usage_ending, file_fault, Command, command_of, IsInput}
use Rattle.abel_cli.specs.Call.{Asked, Heard}
use Rattle.abel_cli.specs.Telling.{Puts, TakesFront, TakesFrontAndMemory}
use Rattle.abel_cli.specs.Run.{Comes, IsCalledFor, Means}
use Rattle.abel_cli.specs.Sources.{sources_of}

-- what a command, or none, means by an ending: it is one of some sources, which are its own if the files show
-- them
abbrev pub MeansOn : (told : Type 0) → Map → Option Command → Ending → Type 0
MeansOn told files None e = e ≡ usage_ending
MeansOn told files (Some command) e =
    (sources : List (List ℕ)) × (told → sources ≡ sources_of files command) × Means command.task sources e

-- what words and files mean by an ending
abbrev pub IsMeant : Asked → Ending → Type 0
IsMeant a e = MeansOn a.told a.old (command_of a.words) e

-- words and files call for an ending that puts this
abbrev pub IsOutput : Asked → Output → Type 0
IsOutput a o = (e : Ending) × IsCalledFor a e × IsMeant a e × (e.output ≡ Some o)

-- the ending that words and files call for was reached under its status: no call of the files failed, its output
-- is in place, and its text was reported in full
pub record EndsAsCalled (a : Asked) (h : Heard) : Type 0 where
  pub ending : Ending
  pub called : IsCalledFor a ending
  pub meant : IsMeant a ending
  pub status : h.status ≡ ending.status
  pub stayed : HasStayed a.faults
  pub stayed_write : HasStayed a.write_faults
  pub files : a.told → Puts ending.output a.old a.new
  pub text : h.told → h.new ≡ h.old ++ ending.text

-- a call of the files failed, and the report names the source that was not read, or the output that was not
-- written
pub record EndsInFileFault (a : Asked) (h : Heard) : Type 0 where
  pub name : List ℕ
  pub rose : HasRisen a.faults
  pub named : IsInput a.words name ⊎ ((bytes : List ℕ) × IsOutput a (record { name = name; bytes = bytes }) × HasRisen a.write_faults)
  pub text : h.told → h.new ≡ h.old ++ (file_fault name).text

-- all files are as they were, except for an output that words and files call for: it is whole, or a write failed
abbrev pub LeavesFiles : Asked → Type 0
LeavesFiles a = SameFiles a.old a.new
    ⊎ ((o : Output) × IsOutput a o × SameBut o.name a.old a.new × ((a.new o.name ≡ Some o.bytes) ⊎ HasRisen a.write_faults))

-- what a run promises, a sentence a field
pub record Promises (a : Asked) (h : Heard) : Type 0 where
  pub statuses : h.status ≤ 8
  -- 0 to 5: the ending that words and files call for
  pub ended : h.status ≤ 5 → EndsAsCalled a h
  -- 6: a file was not read or not written
  pub file_fault : h.status ≡ 6 → EndsInFileFault a h
  -- only under 7 and 8 may a call of the report have failed
  pub report_stays : h.status ≤ 6 → HasStayed h.faults
  -- 7: a call of the report failed, and it took a front of the text
  pub report_fault : h.status ≡ 7 → HasRisen h.faults × (h.told → (e : Ending) × Comes a e × TakesFront e.text h.old h.new)
  -- 8: it took a front of the text, and then a front of the line on memory
  pub memory : h.status ≡ 8 → h.told → ((e : Ending) × Comes a e × TakesFrontAndMemory e.text h.old h.new)
      ⊎ TakesFront memory_line h.old h.new
  -- under every status
  pub files : a.told → LeavesFiles a
