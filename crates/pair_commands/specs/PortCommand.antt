-- `port FROM IN TO OUT`: how it ends, and what that means (this project's rule).
use Rattle.std.specs.Prelude.{◌≡◌, ℕ, ◌⊎◌, List, Some}
use Rattle.pair_commands.specs.Prelude.{Ending, FuseFile, Table, ends, table_at}
use Rattle.fuse_reports.specs.FuseFiles.{IsFileOf, IsRefusedFile}
use Rattle.pair_commands.specs.PairText.{no_counterpart_line, ported_line, unported_line}
use Rattle.fuse_porting.specs.Pairs.{ArePair, HasNoPair}
use Rattle.fuse_porting.specs.declared.pairs.Pair.{Pair}
use Rattle.fuse_porting.specs.Polarities.{IsPortFault}
use Rattle.fuse_porting.specs.PortedFile.{IsPortedFile}
use Rattle.fuse_porting.specs.declared.fault.PortFault.TheVariants.{NoCounterpart}
use Rattle.pld_base.specs.declared.device_name.DeviceName.{DeviceName}

-- the bytes are a fuse file of the first device, and the others its port
pub record IsPorted (f t : Table) (bytes out : List ℕ) : Type 0 where
  pub file : FuseFile
  pub of : IsFileOf f bytes file
  pub port : IsPortedFile f t bytes file out

-- the bytes are a fuse file of the first device, and the cell on this pin is the first without a counterpart
pub record HasNoPort (f t : Table) (bytes : List ℕ) (pin : ℕ) : Type 0 where
  pub file : FuseFile
  pub of : IsFileOf f bytes file
  pub first : IsPortFault f t file.fuses (NoCounterpart pin)

-- how it ends for two devices with the same array: the file is written, or a cell has no counterpart, or IN is refused
abbrev pub PairEnds : (f t : Table) → (output bytes : List ℕ) → Ending → Type 0
PairEnds f t output bytes e =
    ((out : List ℕ) × IsPorted f t bytes out
    × (e ≡ record { status = 0; text = ported_line f.name t.name; output = Some (record { name = output; bytes = out }) }))
    ⊎ (((pin : ℕ) × HasNoPort f t bytes pin × (e ≡ ends 3 (no_counterpart_line pin)))
    ⊎ ((report : List ℕ) × IsRefusedFile f bytes report × (e ≡ ends 4 report)))

-- how it ends: so for two devices that are a pair, in the modes in which they are one, and with a refusal for any other two
abbrev pub PortEnds : (from to : DeviceName) → (output bytes : List ℕ) → Ending → Type 0
PortEnds from to output bytes e =
    ((pair : Pair) × ArePair from to pair × PairEnds (table_at pair.from) (table_at pair.to) output bytes e)
    ⊎ (HasNoPair from to × (e ≡ ends 3 (unported_line from to)))
