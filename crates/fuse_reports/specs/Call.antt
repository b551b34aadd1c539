-- A call of the program: what every clause of it speaks of.
use Rattle.std.specs.Prelude.{ℕ, List}
use Rattle.outside.specs.Outside.{Map}
use Rattle.fuse_reports.specs.Counts.{Count}

-- the words; whether the files show what they hold, what they held before the call and after it, and their
-- counts of faults and of failed writes
pub record Asked : Type 1 where
  pub words : List (List ℕ)
  pub told : Type 0
  pub old : Map
  pub new : Map
  pub faults : Count
  pub write_faults : Count

-- whether the report shows what it took, what it had taken before the call and after it, its count of faults,
-- and the status that the call answers
pub record Heard : Type 1 where
  pub told : Type 0
  pub old : List ℕ
  pub new : List ℕ
  pub faults : Count
  pub status : ℕ

-- the same by place, as clauses write it: each count before the call and after it
abbrev pub asked : List (List ℕ) → (told : Type 0) → (old new : Map) → (faults_before faults_after writes_before writes_after : ℕ) → Asked
asked words told old new faults_before faults_after writes_before writes_after =
    record {
      words = words;
      told = told;
      old = old;
      new = new;
      faults = record { before = faults_before; after = faults_after };
      write_faults = record { before = writes_before; after = writes_after };
    }

-- so of the report
abbrev pub heard : (told : Type 0) → (old new : List ℕ) → (faults_before faults_after status : ℕ) → Heard
heard told old new faults_before faults_after status =
    record { told = told; old = old; new = new; faults = record { before = faults_before; after = faults_after }; status = status }
