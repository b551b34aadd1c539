-- `compare FROM A TO B`: how it ends (this project's rule: as `compare` of two files of one device).
use Rattle.std.specs.Prelude.{◌≡◌, ℕ, ◌⊎◌, List}
use Rattle.pair_commands.specs.Prelude.{Ending, Table, ends, table_at}
use Rattle.fuse_reports.specs.FuseFiles.{IsGoodFile, IsRefusedFile}
use Rattle.pair_commands.specs.Loading.{CanLoad, IsRefusedLoad, logic_with}
use Rattle.fuse_compare.specs.Alike.{AreAlike, IsDifference, RunsAlike}
use Rattle.fuse_compare.specs.declared.difference.Difference.{Difference}
use Rattle.pair_commands.specs.PairText.{differ_line, same_line, unported_line}
use Rattle.fuse_porting.specs.Across.{IsPlainAcross}
use Rattle.fuse_porting.specs.Pairs.{ArePair, HasNoPair}
use Rattle.fuse_porting.specs.declared.pairs.Pair.{Pair}
use Rattle.pld_base.specs.declared.device_name.DeviceName.{DeviceName}

-- the bytes are a fuse file of each of the devices that is loaded; the two behave alike, and so do all their runs; the line says so
pub record AreSameAcross (f t : Table) (a b report : List ℕ) : Type 0 where
  pub first : CanLoad f a
  pub second : CanLoad t b
  pub alike : AreAlike (logic_with f a first) (logic_with t b second)
  pub runs : RunsAlike (logic_with f a first) (logic_with t b second)
  pub told : report ≡ same_line f.name t.name

-- such files that differ at the state that the line reports; it has no level of 1 but at a pin for signals, and no Q of 1 but at a
-- cell that stores with the fuses of one of the files
pub record AreDifferentAcross (f t : Table) (a b report : List ℕ) : Type 0 where
  pub first : CanLoad f a
  pub second : CanLoad t b
  pub state : Difference
  pub differ : IsDifference (logic_with f a first) (logic_with t b second) state
  pub plain : IsPlainAcross f t first.file.fuses second.file.fuses state
  pub told : report ≡ differ_line f t state

-- why two files aren't compared, in the order in which it is found out, and the line on it
pub data IsRefusedAcross (f t : Table) (a b report : List ℕ) : Type 0 where
  -- the first is no fuse file of the first device
  FirstFile : IsRefusedFile f a report → IsRefusedAcross f t a b report
  -- the first is one, and the second is none of the second device
  SecondFile : IsGoodFile f a → IsRefusedFile t b report → IsRefusedAcross f t a b report
  -- both are, and the first isn't loaded
  FirstLoad : IsGoodFile t b → IsRefusedLoad f a report → IsRefusedAcross f t a b report
  -- the first is loaded, and the second isn't
  SecondLoad : CanLoad f a → IsRefusedLoad t b report → IsRefusedAcross f t a b report

-- how it ends for two devices with the same array: the files behave alike, or they don't, or it is reported why they aren't compared
abbrev pub PairCompareEnds : (f t : Table) → (a b : List ℕ) → Ending → Type 0
PairCompareEnds f t a b e =
    ((report : List ℕ) × AreSameAcross f t a b report × (e ≡ ends 0 report))
    ⊎ (((report : List ℕ) × AreDifferentAcross f t a b report × (e ≡ ends 5 report))
    ⊎ ((report : List ℕ) × IsRefusedAcross f t a b report × (e ≡ ends 4 report)))

-- how it ends: so for two devices that are a pair, in the modes in which they are one, and with a refusal for any other two
abbrev pub CompareEnds : (from to : DeviceName) → (a b : List ℕ) → Ending → Type 0
CompareEnds from to a b e =
    ((pair : Pair) × ArePair from to pair × PairCompareEnds (table_at pair.from) (table_at pair.to) a b e)
    ⊎ (HasNoPair from to × (e ≡ ends 3 (unported_line from to)))
