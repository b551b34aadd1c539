-- What a demo says of a run.
use Rattle.std.proofs.Common.{◌≡◌, ℕ, List, length, Ok, ◌∙◌, ap}
use Rattle.abel_commands.proofs.Common.{decimal, FuseFile, file_of, fuse_sum_of, Table, Report, IsSimulated, IsTheOnlyList, IsFileRun, demo_line, demo_told}

pub file_run : (seed cells sum : ℕ) (t : Table) (bytes : List ℕ) (file : FuseFile) (report : Report) (digits line : List ℕ)
    → file_of t bytes ≡ Ok file → IsSimulated t file report → IsTheOnlyList t file report.list → sum ≡ fuse_sum_of file.fuses
    → digits ≡ decimal cells → line ≡ demo_told seed digits report.vectors (length report.list) sum → IsFileRun seed cells t bytes report.list line
file_run seed cells sum t bytes file report digits line read it only is cells_are told =
    record {
      file = file;
      read = read;
      can = it.can;
      run = it.run;
      only = only;
      told = told ∙ ap (λ (ds : List ℕ). demo_told seed ds report.vectors (length report.list) sum) cells_are
          ∙ ap (λ (n : ℕ). demo_line seed cells n (length report.list) sum) it.vectors
          ∙ ap (λ (s : ℕ). demo_line seed cells (length file.vectors) (length report.list) s) is;
    }
