-- What the endings of `demo` mean.
use Rattle.std.proofs.Common.{◌≡◌, ◌≢◌, ℕ, ◌≤◌, List, [], length, refl, sym, subst, inl, inr, arith}
use Rattle.abel_commands.proofs.Common.{Mismatch, Compiled, IsCompiled, table_at, DemoEnds, DemoMeans, IsFileRun, cells_of, Ending, ends, limit, IsRefused, IsUnfit}
use Rattle.demo_source.specs.SourceText.{IsDemoSource}
use Rattle.abel_commands.proofs.SourceMeaning.{compiled_not_refused, unfit_not_refused, fits_not_refused, fits_not_unfit}

module _ (seed : ℕ) (text : List ℕ) (source : IsDemoSource seed text) where
  -- ---- a compiled source

  module _ (within : length text ≤ limit) (c : Compiled) (right : IsCompiled text c) (report : List ℕ) where
    abbrev Ran : List Mismatch → Type 0
    Ran list = IsFileRun seed (cells_of text c right) (table_at c.device) c.file.items list report

    agreed : Ran [] → DemoMeans seed (ends 0 report)
    agreed ran = record {
      text = text;
      source = source;
      statuses = inl refl;
      agrees = λ n. record { compiled = c; right = right; ran = ran };
      disagrees = λ n. absurd (omega (arith, n));
      runs_where = λ fits. inl refl;
      refused = λ n. absurd (omega (arith, n));
      refused_where = λ no. absurd (compiled_not_refused text within c right no);
      unfit = λ n. absurd (omega (arith, n));
      unwritten = refl;
    }

    disagreed : (list : List Mismatch) → list ≢ [] → Ran list → DemoMeans seed (ends 5 report)
    disagreed list apart ran = record {
      text = text;
      source = source;
      statuses = inr (inr (inr refl));
      agrees = λ n. absurd (omega (arith, n));
      disagrees = λ n. (list, apart, record { compiled = c; right = right; ran = ran });
      runs_where = λ fits. inr refl;
      refused = λ n. absurd (omega (arith, n));
      refused_where = λ no. absurd (compiled_not_refused text within c right no);
      unfit = λ n. absurd (omega (arith, n));
      unwritten = refl;
    }

  -- ---- one that isn't

  refuses : (report : List ℕ) → IsRefused text → DemoMeans seed (ends 2 report)
  refuses report r = record {
    text = text;
    source = source;
    statuses = inr (inl refl);
    agrees = λ n. absurd (omega (arith, n));
    disagrees = λ n. absurd (omega (arith, n));
    runs_where = λ fits. absurd (fits_not_refused text fits r);
    refused = λ n. r;
    refused_where = λ also. refl;
    unfit = λ n. absurd (omega (arith, n));
    unwritten = refl;
  }

  does_not_fit : (report : List ℕ) → IsUnfit text → DemoMeans seed (ends 3 report)
  does_not_fit report u = record {
    text = text;
    source = source;
    statuses = inr (inr (inl refl));
    agrees = λ n. absurd (omega (arith, n));
    disagrees = λ n. absurd (omega (arith, n));
    runs_where = λ fits. absurd (fits_not_unfit text fits u);
    refused = λ n. absurd (omega (arith, n));
    refused_where = λ r. absurd (unfit_not_refused text u r);
    unfit = λ n. u;
    unwritten = refl;
  }

module _ (seed : ℕ) (e : Ending) where
  moved : (f : Ending) → e ≡ f → DemoMeans seed f → DemoMeans seed e
  moved f is = subst (λ (x : Ending). DemoMeans seed x) (sym is)

  pub demo_means : DemoEnds seed e → DemoMeans seed e
  demo_means (text, source, inl (long, is)) = moved _ is (refuses seed text source _ (inl long))
  demo_means (text, source, inr (within, inl (c, right, inl (report, ran, is)))) = moved _ is (agreed seed text source within c right report ran)
  demo_means (text, source, inr (within, inl (c, right, inr (report, (list, apart, ran), is)))) =
      moved _ is (disagreed seed text source within c right report list apart ran)
  demo_means (text, source, inr (within, inr (inl (report, r, is)))) = moved _ is (refuses seed text source report (inr (report, r)))
  demo_means (text, source, inr (within, inr (inr (report, u, is)))) = moved _ is (does_not_fit seed text source report (within, report, u))
