-- What bytes say as a dump of a device, in whatever form (this project's rule). They are read by the device's table; of a chip
-- with modes, which have the same sizes, it is that of any mode, and the fuses that were read say which one it is.
use Rattle.std.specs.Prelude.{◌≡◌, ◌≢◌, ℕ, Bool, true, false, List, [], ◌∷◌, ◌++◌, Ok, Some, length}
use Rattle.devices.specs.Models.{model_by, table_at}
use Rattle.form_commands.specs.Prelude.{Finding, FuseFile, HasFixedLevels, IsMadeBy, IsUnread, JedecFault, SaysInBinary, Table, atf22v10c, binary_len, contents, count_of, fault_line, file_of, gal22v10, is_binary, is_count, is_on, relisted, wrong_fixed}
use Rattle.form_commands.specs.DumpLines.{DumpRefusal, WrongCount, WrongLength, Unread, SpareFuse, WrongMode, dump_refusal_line}
use Rattle.form_commands.specs.declared.dump.Dump.{Dump}
use Rattle.form_commands.specs.declared.dump.Dump.TheVariants as dump
use Rattle.form_commands.specs.declared.dump.Way.{Way}
use Rattle.form_commands.specs.declared.dump.Way.TheVariants as way

-- the table of a device that has these fuses: of a chip with modes, in the mode that they say
abbrev pub table_with : Table → (fuses : List Bool) → Table
table_with t fuses = table_at (model_by t.name fuses)

-- ---- fuse files that are repaired

-- the bytes aren't read as a fuse file of the device
abbrev pub IsUnreadable : Table → (bytes : List ℕ) → Type 0
IsUnreadable t bytes = (fault : JedecFault) × IsUnread t bytes fault

-- so as one of the first device, but by these findings they become one of the second device, which says this
pub record IsRepairedTo (as_is t : Table) (mends : Bool) (findings : List Finding) (bytes : List ℕ) (file : FuseFile) : Type 0 where
  pub bad : IsUnreadable as_is bytes
  pub made : IsMadeBy t mends findings bytes file

-- the file of an ATF22V10C that has this level more, behind the fuses of a GAL22V10
abbrev pub longer_by : Bool → FuseFile → (listed : ℕ) → FuseFile
longer_by level file listed = relisted file (file.fuses ++ level ∷ []) listed

-- ---- dumps

-- the bytes say this: as a fuse file, in the binary form, or as a fuse file after repairs. One for the GAL22V10 may be one of
-- the ATF22V10C, whose last fuse is 0
abbrev pub Says : Table → (mends : Bool) → (bytes : List ℕ) → Way → FuseFile → Type 0
Says t mends bytes way.AsFile file = file_of t bytes ≡ Ok file
Says t mends bytes way.InBinary file = (is_binary bytes ≡ true) × SaysInBinary t bytes file
Says t mends bytes (way.Repaired findings) file = IsRepairedTo t t mends findings.items bytes file
Says t mends bytes (way.Longer findings) file =
    (t ≡ gal22v10) × ((listed : ℕ) × IsRepairedTo t atf22v10c mends findings.items bytes (longer_by false file listed))

-- and have each level that the device fixes in its mode
pub record IsDump (t : Table) (mends : Bool) (bytes : List ℕ) (how : Way) (file : FuseFile) : Type 0 where
  pub says : Says t mends bytes how file
  pub mode : HasFixedLevels (table_with t file.fuses) file.fuses

-- ---- bytes that are no dump

-- the bytes say a file in some way, in which this is the first fuse with another level than the one that the device fixes in its
-- mode
pub record IsInOtherMode (t : Table) (mends : Bool) (bytes : List ℕ) (fuse : ℕ) : Type 0 where
  pub how : Way
  pub file : FuseFile
  pub says : Says t mends bytes how file
  pub first : wrong_fixed file.fuses (table_with t file.fuses).fixed ≡ Some fuse

-- the bytes are a fuse file of an ATF22V10C, whose last fuse is 1, and not of a GAL22V10
pub record HasSpareFuse (t : Table) (mends : Bool) (bytes : List ℕ) : Type 0 where
  pub of : t ≡ gal22v10
  pub findings : List Finding
  pub file : FuseFile
  pub read : IsRepairedTo t atf22v10c mends findings bytes file
  pub opened : is_on file.fuses 5892 ≡ true

-- why bytes are no dump
abbrev pub IsRefusedDumpAs : Table → (mends : Bool) → (bytes : List ℕ) → DumpRefusal → Type 0
IsRefusedDumpAs t mends bytes (WrongCount count) =
    (is_binary bytes ≡ true) × (count ≡ count_of bytes) × (is_count t count ≡ false)
IsRefusedDumpAs t mends bytes (WrongLength read wanted) =
    (is_binary bytes ≡ true) × (is_count t (count_of bytes) ≡ true) × (read ≡ length bytes) × (wanted ≡ binary_len (count_of bytes)) × (read ≢ wanted)
IsRefusedDumpAs t mends bytes (Unread fault) = (is_binary bytes ≡ false) × IsUnread t bytes fault
IsRefusedDumpAs t mends bytes SpareFuse = HasSpareFuse t mends bytes
IsRefusedDumpAs t mends bytes (WrongMode fuse) = IsInOtherMode t mends bytes fuse

-- the bytes aren't read as a fuse file, and this is the line on why
abbrev pub IsUnreadFile : Table → (bytes report : List ℕ) → Type 0
IsUnreadFile t bytes report = (fault : JedecFault) × IsUnread t bytes fault × (report ≡ fault_line bytes fault)

-- the bytes are no dump of the device, and this is the line on why
abbrev pub IsRefusedDump : Table → (mends : Bool) → (bytes report : List ℕ) → Type 0
IsRefusedDump t mends bytes report =
    (refusal : DumpRefusal) × IsRefusedDumpAs t mends bytes refusal × (report ≡ dump_refusal_line bytes refusal)

-- what bytes amount to, as the code keeps it
abbrev pub IsDumped : Table → (mends : Bool) → (bytes : List ℕ) → Dump → Type 0
IsDumped t mends bytes (dump.File file how) = IsDump t mends bytes how (contents t file)
IsDumped t mends bytes (dump.Refused line) = IsRefusedDump t mends bytes line.items
