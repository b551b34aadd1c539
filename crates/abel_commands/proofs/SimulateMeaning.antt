-- What the endings of `simulate` mean.
use Rattle.std.proofs.Common.{◌≡◌, ◌≢◌, ℕ, true, false, None, List, [], length, Ok, sym, ◌∙◌, subst, ap, refl, inl, inr, arith, Option, is_some}
use Rattle.abel_commands.proofs.Common.{FuseFile, file_of, Table, SimFault, UnsupportedCondition, DeviceLoop, DeviceResetReadsRegister, OutOfMemory, Mismatch, IsSimFault, first_unsupported, Ending, ends, Agrees, Disagrees, CanRun, RunHas, HasNoRun, IsReportedRun}
use Rattle.pld_order.specs.Graphs.{IsLoop}
use Rattle.device_logic.specs.CellReads.{cell_reads}
use Rattle.device_logic.specs.ResetPaths.{IsResetPath}
use Rattle.abel_commands.specs.SimulateCommand.{SimulateEnds, SimulateMeans, IsBadRun}
use Rattle.abel_commands.proofs.GoodFiles.{good_not_bad, same_file}

module _ (t : Table) (bytes : List ℕ) where
  -- what holds of the file that the bytes are read as holds of it, however it was obtained
  of_file : (Holds : FuseFile → Type 0) (f g : FuseFile) → file_of t bytes ≡ Ok f → file_of t bytes ≡ Ok g → Holds f → Holds g
  of_file Holds f g is also = subst Holds (same_file t bytes f g is also)

  -- ---- refused, or run

  no_run_by : (fault : SimFault) (file : FuseFile) → file_of t bytes ≡ Ok file → IsSimFault t file fault → fault ≢ OutOfMemory → HasNoRun t bytes
  no_run_by (UnsupportedCondition vector pin) file read found refuses = (file, read, inl (ap is_some found))
  no_run_by (DeviceLoop pins) file read (supported, loop) refuses = (file, read, inr (inl (loop.0, loop.1.is_loop)))
  no_run_by (DeviceResetReadsRegister pins) file read (supported, none, path) refuses = (file, read, inr (inr (path.0, path.1)))
  no_run_by OutOfMemory file read found refuses = absurd (refuses refl)

  none_or_some : (found : Option (ℕ × ℕ)) → found ≡ None → is_some found ≡ true → ⊥
  none_or_some found none some = let both : ◌≡◌ false true = sym (ap is_some none) ∙ some in absurd cc

  can_or_bad : CanRun t bytes → IsBadRun t bytes → ⊥
  can_or_bad it (inl bad) = good_not_bad t bytes (it.file, it.of) bad
  can_or_bad it (inr (file, read, inl some)) =
      none_or_some (first_unsupported 1 file.vectors) (of_file (λ f. first_unsupported 1 f.vectors ≡ None) it.file file it.of.read read it.can.supported) some
  can_or_bad it (inr (file, read, inr (inl (chain, loop)))) =
      it.can.no_loop chain (of_file (λ f. IsLoop (length t.cells) (cell_reads t f.fuses) chain) file it.file read it.of.read loop)
  can_or_bad it (inr (file, read, inr (inr (path, leads)))) =
      it.can.no_path path (of_file (λ f. IsResetPath t f.fuses path) file it.file read it.of.read leads)

  -- the mismatches of a run are those of its report
  same_list : (list other : List Mismatch) (report : List ℕ) → IsReportedRun t bytes list report → (it : CanRun t bytes) → RunHas t it.file other → other ≡ list
  same_list list other report run it also = run.only other (of_file (λ f. RunHas t f other) it.file run.of.file it.of.read run.of.of.read also)

  agreed : (report : List ℕ) → Agrees t bytes report → SimulateMeans t bytes (ends 0 report)
  agreed report run = record {
    statuses = inl refl;
    agrees = λ n. run;
    agrees_where = λ h. refl;
    disagrees = λ n. absurd (omega (arith, n));
    disagrees_where = λ h. absurd (h.2 (same_list [] h.1 report run h.0 h.3));
    runs_where = λ can. inl refl;
    bad = λ n. absurd (omega (arith, n));
    bad_where = λ b. absurd (can_or_bad run.of b);
    unwritten = refl;
  }

  disagreed : (report : List ℕ) → Disagrees t bytes report → SimulateMeans t bytes (ends 5 report)
  disagreed report (list, some, run) = record {
    statuses = inr (inr refl);
    agrees = λ n. absurd (omega (arith, n));
    agrees_where = λ h. absurd (some (sym (same_list list [] report run h.0 h.1)));
    disagrees = λ n. (list, some, run);
    disagrees_where = λ h. refl;
    runs_where = λ can. inr refl;
    bad = λ n. absurd (omega (arith, n));
    bad_where = λ b. absurd (can_or_bad run.of b);
    unwritten = refl;
  }

  bad_run : (report : List ℕ) → IsBadRun t bytes → SimulateMeans t bytes (ends 4 report)
  bad_run report b = record {
    statuses = inr (inl refl);
    agrees = λ n. absurd (omega (arith, n));
    agrees_where = λ h. absurd (can_or_bad h.0 b);
    disagrees = λ n. absurd (omega (arith, n));
    disagrees_where = λ h. absurd (can_or_bad h.0 b);
    runs_where = λ can. absurd (can_or_bad can b);
    bad = λ n. b;
    bad_where = λ also. refl;
    unwritten = refl;
  }

  pub simulate_means : (e : Ending) → SimulateEnds t bytes e → SimulateMeans t bytes e
  simulate_means e (inl (report, run, is)) = subst (λ (x : Ending). SimulateMeans t bytes x) (sym is) (agreed report run)
  simulate_means e (inr (inl (report, run, is))) = subst (λ (x : Ending). SimulateMeans t bytes x) (sym is) (disagreed report run)
  simulate_means e (inr (inr (report, inl r, is))) = subst (λ (x : Ending). SimulateMeans t bytes x) (sym is) (bad_run report (inl (r.0, r.1)))
  simulate_means e (inr (inr (report, inr r, is))) = subst (λ (x : Ending). SimulateMeans t bytes x) (sym is) (bad_run report (inr (no_run_by r.fault r.file r.of.read r.found r.refuses)))
