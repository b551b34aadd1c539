-- What comparing two fuse files amounts to, by the library's answer.
use Rattle.std.proofs.Common.{◌≡◌, ◌≢◌, ℕ, List, inl, inr}
use Rattle.device_logic.specs.declared.fault.SimFault.{SimFault}
use Rattle.device_logic.specs.declared.fault.SimFault.TheVariants.{OutOfMemory}
use Rattle.fuse_compare.specs.Alike.{AreAlike, IsDifference, RunsAlike}
use Rattle.fuse_compare.specs.declared.difference.Difference.{Difference}
use Rattle.fuse_reports.specs.SimFaultText.{sim_fault_line}
use Rattle.fuse_porting.specs.Across.{CanBeComparedAcross, IsAcrossFault, IsPlainAcross}
use Rattle.pair_commands.specs.CompareCommand.{AreDifferentAcross, AreSameAcross, FirstLoad, IsRefusedAcross, SecondLoad}
use Rattle.pair_commands.specs.PairText.{differ_line, same_line}
use Rattle.pair_commands.specs.Prelude.{device_logic, FuseFile, IsFileOf, Table}

module _ (f t : Table) (a b : List ℕ) (x y : FuseFile) (first : IsFileOf f a x) (second : IsFileOf t b y) where
  pub told_same : (report : List ℕ) → CanBeComparedAcross f t x.fuses y.fuses → AreAlike (device_logic f x.fuses) (device_logic t y.fuses)
      → RunsAlike (device_logic f x.fuses) (device_logic t y.fuses) → report ≡ same_line f.name t.name → AreSameAcross f t a b report
  told_same report can alike runs told = record {
    first = record { file = x; of = first; can = can.first };
    second = record { file = y; of = second; can = can.second };
    alike = alike;
    runs = runs;
    told = told;
  }

  pub told_different : (report : List ℕ) (state : Difference) → CanBeComparedAcross f t x.fuses y.fuses
      → IsDifference (device_logic f x.fuses) (device_logic t y.fuses) state → IsPlainAcross f t x.fuses y.fuses state → report ≡ differ_line f t state
      → AreDifferentAcross f t a b report
  told_different report state can differ plain told = record {
    first = record { file = x; of = first; can = can.first };
    second = record { file = y; of = second; can = can.second };
    state = state;
    differ = differ;
    plain = plain;
    told = told;
  }

  pub told_refused : (report : List ℕ) (fault : SimFault) → IsAcrossFault f t x.fuses y.fuses fault → fault ≢ OutOfMemory → report ≡ sim_fault_line fault
      → IsRefusedAcross f t a b report
  told_refused report fault (inl found) refuses told =
      FirstLoad (y, second) (record { file = x; of = first; fault = fault; found = found; refuses = refuses; told = told })
  told_refused report fault (inr (loaded, found)) refuses told =
      SecondLoad (record { file = x; of = first; can = loaded }) (record { file = y; of = second; fault = fault; found = found; refuses = refuses; told = told })
