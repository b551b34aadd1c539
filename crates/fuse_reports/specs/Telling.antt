-- What an ending puts, and how it is reported (this project's rule).
use Rattle.std.specs.Prelude.{◌≡◌, ℕ, ◌⊎◌, List, ◌++◌, Option, Some, None}
use Rattle.fuse_reports.specs.Prelude.{Begins, Map, SameBut, SameFiles}
use Rattle.fuse_reports.specs.Counts.{HasRisen, HasStayed}
use Rattle.fuse_reports.specs.Ending.{Ending, Output, memory_line}
use Rattle.fuse_reports.specs.Call.{Heard}

-- all files are as they were, except for the output, which has its bytes
abbrev pub Puts : Option Output → Map → Map → Type 0
Puts None old new = SameFiles old new
Puts (Some output) old new = SameBut output.name old new × (new output.name ≡ Some output.bytes)

-- a front of a text was taken
abbrev pub TakesFront : (text old new : List ℕ) → Type 0
TakesFront text old new = (front : List ℕ) × Begins text front × (new ≡ old ++ front)

-- a front of a text, and then a front of the line on memory
abbrev pub TakesFrontAndMemory : (text old new : List ℕ) → Type 0
TakesFrontAndMemory text old new = (middle : List ℕ) × TakesFront text old middle × TakesFront memory_line middle new

-- how an ending is reported: in full under its status, and then no call of the report failed; in part
-- under 7, if one did; in part and then with the line on memory under 8
abbrev pub Tells : Ending → Heard → Type 0
Tells ending h =
    ((h.status ≡ ending.status) × HasStayed h.faults × (h.told → h.new ≡ h.old ++ ending.text))
    ⊎ (((h.status ≡ 7) × HasRisen h.faults × (h.told → TakesFront ending.text h.old h.new))
    ⊎ ((h.status ≡ 8) × (h.told → TakesFrontAndMemory ending.text h.old h.new)))
