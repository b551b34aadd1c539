-- What is reported of bytes that are not read as a fuse file (this project's rule).
use Rattle.std.specs.Prelude.{ℕ, List, [], ◌∷◌, ◌++◌, get_or, codes}
use Rattle.fuse_reports.specs.Prelude.{decimal, JedecFault, four_hex}
use Rattle.jedec_file.specs.declared.jedec_fault.JedecFault.TheVariants as fault

-- the two sums that differ: the one that the file says, and the one that was found
abbrev pub two_sums : (read found : ℕ) → List ℕ
two_sums read found = codes " read " ++ four_hex read ++ codes " found " ++ four_hex found

-- the name of a refusal, and what was found; of a field also its letter
abbrev pub fault_text : (bytes : List ℕ) → JedecFault → List ℕ
fault_text bytes fault.NoStart = codes "NoStart"
fault_text bytes fault.NoEnd = codes "NoEnd"
fault_text bytes (fault.FileSum read found) = codes "FileSum" ++ two_sums read found
fault_text bytes (fault.BadField at) = codes "BadField at " ++ decimal at
fault_text bytes (fault.UnsupportedField at) = codes "UnsupportedField at " ++ decimal at ++ 32 ∷ get_or bytes at 0 ∷ []
fault_text bytes fault.WrongSize = codes "WrongSize"
fault_text bytes (fault.Unlisted fuse) = codes "Unlisted " ++ decimal fuse
fault_text bytes (fault.FuseSum read found) = codes "FuseSum" ++ two_sums read found
fault_text bytes fault.OutOfMemory = codes "memory"

-- the line on a refusal
abbrev pub fault_line : (bytes : List ℕ) → JedecFault → List ℕ
fault_line bytes fault = codes "error " ++ fault_text bytes fault ++ codes "\n"
