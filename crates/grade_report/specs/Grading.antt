-- `grade DEVICE IN`: how it ends (this project's rule).
use Rattle.std.specs.Prelude.{◌≡◌, ◌≢◌, ℕ, ◌⊎◌, List, length}
use Rattle.grade_report.specs.Prelude.{FuseFile, Grade, SimFault, Table}
use Rattle.device_logic.specs.declared.fault.SimFault.TheVariants as fault
use Rattle.device_sim.specs.Simulated.{IsSimFault}
use Rattle.fuse_reports.specs.Ending.{Ending, ends}
use Rattle.fuse_reports.specs.FuseFiles.{IsFileOf, IsRefusedFile}
use Rattle.fuse_reports.specs.SimFaultText.{sim_fault_line}
use Rattle.grade_report.specs.Report.{report_of, status_of}
use Rattle.wrong_fuses.specs.Passing.{ShowsTheRight}
use Rattle.wrong_fuses.specs.Verdicts.{AreJudged, AreOfRight}

-- the bytes are a fuse file of the device, and this is what its vectors say of its wrong fuses
pub record IsGraded (t : Table) (bytes : List ℕ) (grade : Grade) : Type 0 where
  pub file : FuseFile
  pub of : IsFileOf t bytes file
  pub vectors : grade.vectors ≡ length file.vectors
  pub right : AreOfRight t file grade
  pub judged : AreJudged t file grade.judged
  pub passed : ShowsTheRight t file grade.judged

-- the bytes are a fuse file of the device that isn't simulated, and this is the line on why; lack of memory is no reason
pub record IsUnsimulated (t : Table) (bytes report : List ℕ) : Type 0 where
  pub file : FuseFile
  pub of : IsFileOf t bytes file
  pub why : SimFault
  pub found : IsSimFault t file why
  pub refuses : why ≢ fault.OutOfMemory
  pub told : report ≡ sim_fault_line why

-- how it ends: the grade is reported, or why there is none
abbrev pub GradeEnds : Table → (bytes : List ℕ) → Ending → Type 0
GradeEnds t bytes e =
    ((grade : Grade) × IsGraded t bytes grade × (e ≡ ends (status_of grade) (report_of t grade)))
    ⊎ ((report : List ℕ) × (IsRefusedFile t bytes report ⊎ IsUnsimulated t bytes report) × (e ≡ ends 4 report))
