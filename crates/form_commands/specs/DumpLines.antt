-- What is reported of a dump (this project's rule).
use Rattle.std.specs.Prelude.{ℕ, not, if◌then◌else◌, Bool, true, false, List, [], ◌++◌, flat_map, codes}
use Rattle.form_commands.specs.Prelude.{Finding, FuseFile, JedecFault, Table, are_alike, array_of, checked_line, decimal, fault_line, is_some_row_possible, two_sums, wrong_mode_line}
use Rattle.form_commands.specs.declared.dump.Way.{Way}
use Rattle.form_commands.specs.declared.dump.Way.TheVariants as way
use Rattle.fuse_forms.specs.declared.finding.Finding.TheVariants as finding

-- ---- what was found

-- the name of a finding, and its sums
abbrev pub finding_text : Finding → List ℕ
finding_text finding.NoStart = codes "NoStart"
finding_text finding.NoEnd = codes "NoEnd"
finding_text finding.LineEnds = codes "LineEnds"
finding_text (finding.FileSum read found) = codes "FileSum" ++ two_sums read found
finding_text (finding.FuseSum read found) = codes "FuseSum" ++ two_sums read found

abbrev pub finding_line : Finding → List ℕ
finding_line it = codes "found " ++ finding_text it ++ codes "\n"

abbrev pub finding_lines : List Finding → List ℕ
finding_lines = flat_map finding_line

-- a line for each thing in which the bytes differ from a fuse file of the device
abbrev pub way_lines : Way → List ℕ
way_lines way.AsFile = []
way_lines way.InBinary = codes "found Binary\n"
way_lines (way.Repaired findings) = finding_lines findings.items
way_lines (way.Longer findings) = finding_lines findings.items ++ codes "found SpareFuse\n"

-- all fuses of the array have one level, or no row can be true
abbrev pub warning_lines : Table → List Bool → List ℕ
warning_lines t fuses =
    if are_alike (array_of t fuses) false then codes "warning AllAlike 0\n"
    else if are_alike (array_of t fuses) true then codes "warning AllAlike 1\n"
    else if not (is_some_row_possible t fuses) then codes "warning NoRowInUse\n"
    else []

-- what was found, the warnings, and the numbers of the file
abbrev pub dump_report : Table → Way → FuseFile → List ℕ
dump_report t how file = way_lines how ++ warning_lines t file.fuses ++ checked_line t file

-- ---- refusals

-- why bytes are no dump of a device: the binary form has another number of fuses, or of bytes; they aren't read as a fuse file;
-- the fuse that a longer file names is 1; or this fuse has another level than the one that the device fixes
pub data DumpRefusal : Type 0 where
  WrongCount : (count : ℕ) → DumpRefusal
  WrongLength : (read wanted : ℕ) → DumpRefusal
  Unread : (fault : JedecFault) → DumpRefusal
  SpareFuse : DumpRefusal
  WrongMode : (fuse : ℕ) → DumpRefusal

abbrev pub wrong_count_line : (count : ℕ) → List ℕ
wrong_count_line count = codes "error WrongCount " ++ decimal count ++ codes "\n"

abbrev pub wrong_length_line : (read wanted : ℕ) → List ℕ
wrong_length_line read wanted = codes "error WrongLength read " ++ decimal read ++ codes " wanted " ++ decimal wanted ++ codes "\n"

abbrev pub spare_fuse_line : List ℕ
spare_fuse_line = codes "error SpareFuse 5892\n"

-- the line on a refusal
abbrev pub dump_refusal_line : (bytes : List ℕ) → DumpRefusal → List ℕ
dump_refusal_line bytes (WrongCount count) = wrong_count_line count
dump_refusal_line bytes (WrongLength read wanted) = wrong_length_line read wanted
dump_refusal_line bytes (Unread fault) = fault_line bytes fault
dump_refusal_line bytes SpareFuse = spare_fuse_line
dump_refusal_line bytes (WrongMode fuse) = wrong_mode_line fuse
