-- What is reported of a file that was simulated, or wasn't.
use Rattle.std.proofs.Common.{◌≡◌, ◌≢◌, ℕ, ◌==◌, Bool, true, false, List, [], sym, ◌∙◌, ap, length}
use Rattle.abel_commands.proofs.Common.{eqb-true, true≢false, nil_from_length, FuseFile, Table, Mismatch, Report, IsSimulated, IsTheOnlyList, IsFileOf, IsReportedRun, run_lines}

pub told_run : (t : Table) (bytes : List ℕ) (file : FuseFile) (report : Report) (lines : List ℕ)
    → IsFileOf t bytes file → IsSimulated t file report → IsTheOnlyList t file report.list
    → lines ≡ run_lines t report.vectors report.list → IsReportedRun t bytes report.list lines
told_run t bytes file report lines is it only told =
    record {
      of = record { file = file; of = is; can = it.can };
      run = it.run;
      only = only;
      told = told ∙ ap (λ (n : ℕ). run_lines t n report.list) it.vectors;
    }

-- ---- the test of its list

pub none_where_empty : (empty : Bool) (list : List Mismatch) → empty ≡ (length list == 0) → empty ≡ true → list ≡ []
none_where_empty empty list is on = nil_from_length list (eqb-true (length list) 0 (sym is ∙ on))

pub some_where_not : (empty : Bool) (list : List Mismatch) → empty ≡ (length list == 0) → empty ≡ false → list ≢ []
some_where_not empty list is off none = true≢false (sym (is ∙ ap (λ (xs : List Mismatch). length xs == 0) none) ∙ off)
