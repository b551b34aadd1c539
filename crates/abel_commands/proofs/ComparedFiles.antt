-- What comparing two fuse files amounts to, by the library's answer.
use Rattle.std.proofs.Common.{◌≡◌, ◌≢◌, ℕ, List, inl, inr}
use Rattle.abel_commands.proofs.Common.{FuseFile, device_logic, Table, SimFault, OutOfMemory, AreAlike, IsDifference, RunsAlike, Difference, IsRefusedPair, FirstLoad, SecondLoad, AreDifferent, AreSame, differ_line, same_line, IsFileOf, CanLoad, sim_fault_line}
use Rattle.fuse_compare.specs.Compared.{CanBeCompared, CanBeLoaded, IsCompareFault}

abbrev can_load : (t : Table) (bytes : List ℕ) (file : FuseFile) → IsFileOf t bytes file → CanBeLoaded t file.fuses → CanLoad t bytes
can_load t bytes file of loaded = record { file = file; of = of; no_loop = loaded.no_loop; no_path = loaded.no_path }

module _ (t : Table) (a b : List ℕ) (f g : FuseFile) (first : IsFileOf t a f) (second : IsFileOf t b g) where
  pub told_same : (report : List ℕ) → CanBeCompared t f.fuses g.fuses → AreAlike (device_logic t f.fuses) (device_logic t g.fuses)
      → RunsAlike (device_logic t f.fuses) (device_logic t g.fuses) → report ≡ same_line t → AreSame t a b report
  told_same report can alike runs told =
      record {
        of = record { first = can_load t a f first can.first; second = can_load t b g second can.second; alike = alike };
        runs = runs;
        told = told;
      }

  abbrev pub told_different : (report : List ℕ) (state : Difference) → CanBeCompared t f.fuses g.fuses
      → IsDifference (device_logic t f.fuses) (device_logic t g.fuses) state → report ≡ differ_line t state → AreDifferent t a b report
  told_different report state can differ told =
      record { first = can_load t a f first can.first; second = can_load t b g second can.second; state = state; differ = differ; told = told }

  pub told_refused : (report : List ℕ) (fault : SimFault) → IsCompareFault t f.fuses g.fuses fault → fault ≢ OutOfMemory → report ≡ sim_fault_line fault
      → IsRefusedPair t a b report
  told_refused report fault (inl found) refuses told =
      FirstLoad (g, second) (record { file = f; of = first; fault = fault; found = found; refuses = refuses; told = told })
  told_refused report fault (inr (loaded, found)) refuses told =
      SecondLoad (can_load t a f first loaded) (record { file = g; of = second; fault = fault; found = found; refuses = refuses; told = told })
