-- What the endings of `check` mean.
use Rattle.std.proofs.Common.{◌≡◌, ℕ, List, refl, sym, ap, ◌∙◌, subst, inl, inr, arith}
use Rattle.abel_commands.proofs.Common.{FuseFile, Table, Ending, ends, IsBadFile, IsFileOf}
use Rattle.abel_commands.specs.CheckCommand.{CheckEnds, CheckMeans}
use Rattle.abel_commands.specs.Checking.{IsChecked, checked_line}
use Rattle.abel_commands.proofs.GoodFiles.{good_not_bad, same_file}

module _ (t : Table) (bytes : List ℕ) where
  good : (report : List ℕ) → IsChecked t bytes report → CheckMeans t bytes (ends 0 report)
  good report c = record {
    statuses = inl refl;
    checked = λ n. c;
    checked_where = λ g. refl;
    bad = λ n. absurd (omega (arith, n));
    bad_where = λ b. absurd (good_not_bad t bytes (c.file, c.of) b);
    unwritten = refl;
  }

  bad : (report : List ℕ) → IsBadFile t bytes → CheckMeans t bytes (ends 4 report)
  bad report b = record {
    statuses = inr refl;
    checked = λ n. absurd (omega (arith, n));
    checked_where = λ g. absurd (good_not_bad t bytes g b);
    bad = λ n. b;
    bad_where = λ also. refl;
    unwritten = refl;
  }

  pub check_means : (e : Ending) → CheckEnds t bytes e → CheckMeans t bytes e
  check_means e (inl (report, c, is)) = subst (λ (x : Ending). CheckMeans t bytes x) (sym is) (good report c)
  check_means e (inr (report, r, is)) = subst (λ (x : Ending). CheckMeans t bytes x) (sym is) (bad report (r.0, r.1))

  -- bytes that are a fuse file of the device have one ending: their numbers are reported
  pub checked_as : (file : FuseFile) → IsFileOf t bytes file → (e : Ending) → CheckEnds t bytes e → e ≡ ends 0 (checked_line t file)
  checked_as file is e (inl (report, c, ending)) =
      ending ∙ ap (λ (text : List ℕ). ends 0 text) (c.told ∙ ap (checked_line t) (same_file t bytes c.file file c.of.read is.read))
  checked_as file is e (inr (report, r, ending)) = absurd (good_not_bad t bytes (file, is) (r.0, r.1))
