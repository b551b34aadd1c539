-- What the contracts of the memory types speak of: what they hold, and their counts.
use Rattle.std.specs.Prelude.{◌≡◌, ℕ, List}
use Rattle.outside.specs.declared.memory_files.MemoryFiles.{MemoryFiles}
use Rattle.outside.specs.declared.memory_sink.MemorySink.{MemorySink}
use Rattle.outside.specs.declared.sure_files.SureFiles.{SureFiles}
use Rattle.outside.specs.Outside.{Map, SameFiles}
use Rattle.outside.specs.Memory.{bytes_in, FailsNext}

-- the files held, by their names
abbrev pub held : MemoryFiles → Map
held m name = bytes_in m.files name

-- the next call is on the list of those that fail
abbrev pub FailsNow : MemoryFiles → Type 0
FailsNow m = FailsNext m.failing.items m.calls

-- the numbers of the calls that fail
abbrev pub failing_calls : MemoryFiles → List ℕ
failing_calls m = m.failing.items

-- how many reads and writes there were
abbrev pub calls_made : MemoryFiles → ℕ
calls_made m = m.calls

-- how many of them failed, and how many writes did
abbrev pub faults_of : MemoryFiles → ℕ
faults_of m = m.faults

abbrev pub write_faults_of : MemoryFiles → ℕ
write_faults_of m = m.write_faults

-- the calls made and their faults are as they were
pub record SameCounts (old new : MemoryFiles) : Type 0 where
  pub calls : new.calls ≡ old.calls
  pub faults : new.faults ≡ old.faults
  pub write_faults : new.write_faults ≡ old.write_faults

-- nothing is changed
pub record SameMemory (old new : MemoryFiles) : Type 0 where
  pub files : SameFiles (held old) (held new)
  pub failing : failing_calls new ≡ failing_calls old
  pub counts : SameCounts old new

-- the files that never fail, by their names
abbrev pub sure_held : SureFiles → Map
sure_held s name = bytes_in s.inner.files name

-- the bytes taken
abbrev pub taken_by : MemorySink → List ℕ
taken_by s = s.taken.items

-- the next call is on the list of those that fail
abbrev pub RefusesNow : MemorySink → Type 0
RefusesNow s = FailsNext s.failing.items s.calls

abbrev pub refused_calls : MemorySink → List ℕ
refused_calls s = s.failing.items

abbrev pub puts_made : MemorySink → ℕ
puts_made s = s.calls

abbrev pub sink_faults : MemorySink → ℕ
sink_faults s = s.faults
