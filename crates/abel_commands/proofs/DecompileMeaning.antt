-- What the endings of `decompile` mean.
use Rattle.std.proofs.Common.{ℕ, List, refl, sym, subst, inl, inr, arith}
use Rattle.abel_commands.proofs.Common.{Table, DecompileEnds, DecompileMeans, IsDecompiledFile, Ending, ends, IsBadToLoad}
use Rattle.abel_commands.proofs.LoadedFiles.{can_not_bad, refused_is_bad}

module _ (t : Table) (bytes : List ℕ) where
  told : (report : List ℕ) → IsDecompiledFile t bytes report → DecompileMeans t bytes (ends 0 report)
  told report d = record {
    statuses = inl refl;
    decompiled = λ n. d;
    decompiled_where = λ can. refl;
    bad = λ n. absurd (omega (arith, n));
    bad_where = λ b. absurd (can_not_bad t bytes d.of b);
    unwritten = refl;
  }

  bad : (report : List ℕ) → IsBadToLoad t bytes → DecompileMeans t bytes (ends 4 report)
  bad report b = record {
    statuses = inr refl;
    decompiled = λ n. absurd (omega (arith, n));
    decompiled_where = λ can. absurd (can_not_bad t bytes can b);
    bad = λ n. b;
    bad_where = λ also. refl;
    unwritten = refl;
  }

  pub decompile_means : (e : Ending) → DecompileEnds t bytes e → DecompileMeans t bytes e
  decompile_means e (inl (report, d, is)) = subst (λ (x : Ending). DecompileMeans t bytes x) (sym is) (told report d)
  decompile_means e (inr (report, inl r, is)) = subst (λ (x : Ending). DecompileMeans t bytes x) (sym is) (bad report (inl (r.0, r.1)))
  decompile_means e (inr (report, inr r, is)) = subst (λ (x : Ending). DecompileMeans t bytes x) (sym is) (bad report (refused_is_bad t bytes report r))
