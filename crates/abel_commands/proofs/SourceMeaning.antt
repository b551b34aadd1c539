-- What the endings of `compile` and `list` mean.
use Rattle.std.proofs.Common.{◌≡◌, ℕ, ◌≤◌, List, length, refl, sym, subst, inl, inr, arith}
use Rattle.abel_commands.proofs.Common.{Compiled, IsCompiled, SourceEnds, SourceMeans, Fits, IsRefused, IsUnfit, Ending, ends, limit}
use Rattle.abel_compile.proofs.Exclusive as one

module _ (text : List ℕ) where
  -- ---- a text has one fate

  pub compiled_not_refused : length text ≤ limit → (c : Compiled) → IsCompiled text c → IsRefused text → ⊥
  compiled_not_refused within c is (inl long) = omega (arith, within, long)
  compiled_not_refused within c is (inr (report, r)) = one.compiled_not_refused text c r.0 report is r.1

  pub unfit_not_refused : IsUnfit text → IsRefused text → ⊥
  unfit_not_refused (within, report, u) (inl long) = omega (arith, within, long)
  unfit_not_refused (within, report, inl u) (inr (other, r)) = one.unplaced_not_refused text u.0 report r.0 other u.1 r.1
  unfit_not_refused (within, report, inr u) (inr (other, r)) = one.unfit_not_refused text u.0 report r.0 other u.2 r.1

  pub fits_not_refused : Fits text → IsRefused text → ⊥
  fits_not_refused (within, fits) (inl long) = omega (arith, within, long)
  fits_not_refused (within, fits) (inr (report, r)) = one.fits_not_refused text r.0 report fits r.1

  pub fits_not_unfit : Fits text → IsUnfit text → ⊥
  fits_not_unfit (within, fits) (also, report, inl u) = one.fits_not_unplaced text u.0 report fits u.1
  fits_not_unfit (within, fits) (also, report, inr u) = one.fits_not_unfit text u.0 report fits u.1 u.2

  -- ---- each ending

  module _ (told : Compiled → Ending) (under_0 : (c : Compiled) → (told c).status ≡ 0) where
    done : length text ≤ limit → (c : Compiled) → IsCompiled text c → SourceMeans text told (told c)
    done within c is =
        let zero = under_0 c in
        record {
          statuses = inl zero;
          compiled = λ n. (c, is, refl);
          compiled_where = λ fits. zero;
          refused = λ n. absurd (omega (arith, n, zero));
          refused_where = λ no. absurd (compiled_not_refused within c is no);
          unfit = λ n. absurd (omega (arith, n, zero));
          unwritten = λ low. absurd (omega (arith, low, zero));
        }

    refuses : (report : List ℕ) → IsRefused text → SourceMeans text told (ends 2 report)
    refuses report r = record {
      statuses = inr (inl refl);
      compiled = λ n. absurd (omega (arith, n));
      compiled_where = λ fits. absurd (fits_not_refused fits r);
      refused = λ n. r;
      refused_where = λ also. refl;
      unfit = λ n. absurd (omega (arith, n));
      unwritten = λ low. refl;
    }

    does_not_fit : (report : List ℕ) → IsUnfit text → SourceMeans text told (ends 3 report)
    does_not_fit report u = record {
      statuses = inr (inr refl);
      compiled = λ n. absurd (omega (arith, n));
      compiled_where = λ fits. absurd (fits_not_unfit fits u);
      refused = λ n. absurd (omega (arith, n));
      refused_where = λ r. absurd (unfit_not_refused u r);
      unfit = λ n. u;
      unwritten = λ low. refl;
    }

    moved : (e f : Ending) → e ≡ f → SourceMeans text told f → SourceMeans text told e
    moved e f is = subst (λ (x : Ending). SourceMeans text told x) (sym is)

    pub source_means : (e : Ending) → SourceEnds text told e → SourceMeans text told e
    source_means e (inl (long, is)) = moved e _ is (refuses _ (inl long))
    source_means e (inr (within, inl (c, compiled, is))) = moved e _ is (done within c compiled)
    source_means e (inr (within, inr (inl (report, r, is)))) = moved e _ is (refuses report (inr (report, r)))
    source_means e (inr (within, inr (inr (report, u, is)))) = moved e _ is (does_not_fit report (within, report, u))
