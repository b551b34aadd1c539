-- The run of a file's vectors with other fuses and another level of the pins that no vector drives.
use Rattle.std.proofs.Common.{◌≡◌, Bool, true, false, List, refl, sym, ◌∙◌, inl, inr}
use Rattle.wrong_fuses.proofs.Common.{none-some, IsLoadFault, IsVectorRun, IsSimFault, Mismatch, AreAlike, CanBeLoaded, Logic, device_logic, Table, IsTheList, tried}
use Rattle.device_logic.specs.declared.fault.SimFault.{SimFault}
use Rattle.device_logic.specs.declared.fault.SimFault.TheVariants.{UnsupportedCondition, DeviceLoop, DeviceResetReadsRegister, OutOfMemory}
use Rattle.device_sim.specs.Simulated.{CanBeSimulated, IsTheOnlyList}
use Rattle.fuse_compare.specs.Alike.{DifferAs, IsDifference}
use Rattle.fuse_compare.specs.Compared.{IsCompareFault}
use Rattle.fuse_compare.specs.declared.difference.Difference.{Difference}
use Rattle.jedec_file.specs.FuseFile as said
use Rattle.jedec_reader.specs.Contents.{contents}
use Rattle.jedec_reader.specs.declared.fuse_file.FuseFile.{FuseFile}
use Rattle.pld_base.proofs.BitLemmas.{length-bits}
use Rattle.pld_base.specs.Bits.{bits}
use Rattle.pld_machine.specs.Steps.{IsWide}

-- the trial is the file with these fuses and this level
module _ (t : Table) (file trial : FuseFile) (fuses : List Bool) (level : Bool) (same_fuses : trial.fuses ≡ fuses) (same_vectors : trial.vectors ≡ file.vectors)
    (same_level : trial.default_level ≡ level) where
  pub the_list : (list : List Mismatch) → IsVectorRun (device_logic t trial.fuses) trial.default_level (contents t trial).vectors list
      → IsTheOnlyList t (contents t trial) list → IsTheList (device_logic t fuses) level (contents t file).vectors list
  the_list list run only =
      rw (← same_fuses, ← same_vectors, ← same_level) (let r : IsTheList (device_logic t trial.fuses) trial.default_level (contents t trial).vectors list = record { run = run; only = only } in r)

  pub tried_runs : CanBeSimulated t (contents t trial) → CanBeSimulated t (tried (contents t file) fuses level)
  tried_runs can = rw (← same_fuses, ← same_vectors) (record { supported = can.supported; no_loop = can.no_loop; no_path = can.no_path })

pub can_be_loaded : (t : Table) (file : said.FuseFile) → CanBeSimulated t file → CanBeLoaded t file.fuses
can_be_loaded t file can = record { no_loop = can.no_loop; no_path = can.no_path }

-- whether a file is simulated doesn't depend on that level
pub tried_can : (t : Table) (file : said.FuseFile) (level : Bool) → CanBeSimulated t (tried file file.fuses level) → CanBeSimulated t file
tried_can t file level can = record { supported = can.supported; no_loop = can.no_loop; no_path = can.no_path }

-- what can be loaded, compared or simulated is refused only for lack of memory
pub loads : (t : Table) (fuses : List Bool) (fault : SimFault) → CanBeLoaded t fuses → IsLoadFault t fuses fault → fault ≡ OutOfMemory
loads t fuses (UnsupportedCondition vector pin) can is = absurd is
loads t fuses (DeviceLoop pins) can loop = absurd (can.no_loop loop.0 loop.1.is_loop)
loads t fuses (DeviceResetReadsRegister pins) can (none, path) = absurd (can.no_path path.0 path.1)
loads t fuses OutOfMemory can is = refl

pub compares : (t : Table) (a b : List Bool) (fault : SimFault) → CanBeLoaded t a → CanBeLoaded t b → IsCompareFault t a b fault → fault ≡ OutOfMemory
compares t a b fault first second (inl is) = loads t a fault first is
compares t a b fault first second (inr is) = loads t b fault second is.1

pub simulates : (t : Table) (file : said.FuseFile) (fuses : List Bool) (level : Bool) (fault : SimFault) → CanBeSimulated t file → CanBeLoaded t fuses → IsSimFault t (tried file fuses level) fault → fault ≡ OutOfMemory
simulates t file fuses level (UnsupportedCondition vector pin) can loaded found = absurd (none-some (vector, pin) (sym can.supported ∙ found))
simulates t file fuses level (DeviceLoop pins) can loaded (supported, loop) = absurd (loaded.no_loop loop.0 loop.1.is_loop)
simulates t file fuses level (DeviceResetReadsRegister pins) can loaded (supported, none, path) = absurd (loaded.no_path path.0 path.1)
simulates t file fuses level OutOfMemory can loaded is = refl

module _ (a b : Logic) where
  differ_as : (clocked : Bool) (o s : List Bool) → IsWide o → IsWide s → DifferAs a b clocked o s → AreAlike a b → ⊥
  differ_as true o s o_wide s_wide differ alike = alike.edge o s o_wide s_wide differ
  differ_as false o s o_wide s_wide differ alike = alike.rest o s o_wide s_wide differ

  -- logics that differ aren't alike
  pub not_alike : (d : Difference) → IsDifference a b d → AreAlike a b → ⊥
  not_alike d differ alike = differ_as d.clocked (bits 32 d.outside) (bits 32 d.stored) (length-bits 32 d.outside) (length-bits 32 d.stored) differ alike
