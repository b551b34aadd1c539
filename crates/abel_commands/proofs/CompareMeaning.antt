-- What the endings of `compare` mean.
use Rattle.std.proofs.Common.{ℕ, ◌⊎◌, Bool, true, false, List, refl, sym, subst, inl, inr, arith}
use Rattle.abel_commands.proofs.Common.{FuseFile, bits, device_logic, Table, AreAlike, DifferAs, IsDifference, Difference, CompareEnds, CompareMeans, IsRefusedPair, LongFile, FirstFile, SecondFile, FirstLoad, SecondLoad, AreDifferent, AreSame, IsPlain, Ending, ends, TooLong, CanLoad, IsBadToLoad}
use Rattle.pld_base.proofs.BitLemmas.{length-bits}
use Rattle.pld_base.specs.Logic.{Logic}
use Rattle.abel_commands.proofs.GoodFiles.{same_file}
use Rattle.abel_commands.proofs.LoadedFiles.{can_not_bad, refused_is_bad}

-- ---- logics that are alike differ nowhere

module _ (a b : Logic) where
  differ_nowhere : AreAlike a b → (d : Difference) (clocked : Bool) → DifferAs a b clocked (bits 32 d.outside) (bits 32 d.stored) → ⊥
  differ_nowhere alike d true at = alike.edge _ _ (length-bits 32 d.outside) (length-bits 32 d.stored) at
  differ_nowhere alike d false at = alike.rest _ _ (length-bits 32 d.outside) (length-bits 32 d.stored) at

  alike_no_difference : AreAlike a b → (d : Difference) → IsDifference a b d → ⊥
  alike_no_difference alike d differ = differ_nowhere alike d d.clocked differ

module _ (t : Table) (a b : List ℕ) where
  -- ---- a file is read as one alone

  abbrev Alike : FuseFile → FuseFile → Type 0
  Alike f g = AreAlike (device_logic t f.fuses) (device_logic t g.fuses)

  alike_too : (f g : CanLoad t a) (h k : CanLoad t b) → Alike f.file h.file → Alike g.file k.file
  alike_too f g h k alike =
      subst (λ (x : FuseFile). Alike g.file x) (same_file t b h.file k.file h.of.read k.of.read)
      (subst (λ (x : FuseFile). Alike x h.file) (same_file t a f.file g.file f.of.read g.of.read) alike)

  -- ---- what is compared isn't refused

  abbrev IsBadPair : Type 0
  IsBadPair = IsBadToLoad t a ⊎ IsBadToLoad t b

  neither_bad : CanLoad t a → CanLoad t b → IsBadPair → ⊥
  neither_bad f g (inl bad) = can_not_bad t a f bad
  neither_bad f g (inr bad) = can_not_bad t b g bad

  bad_pair : (report : List ℕ) → IsRefusedPair t a b report → IsBadPair
  bad_pair report (LongFile (inl long) told) = inl (inl (TooLong, long))
  bad_pair report (LongFile (inr long) told) = inr (inl (TooLong, long))
  bad_pair report (FirstFile within r) = inl (inl (r.0, r.1))
  bad_pair report (SecondFile good r) = inr (inl (r.0, r.1))
  bad_pair report (FirstLoad good r) = inl (refused_is_bad t a report r)
  bad_pair report (SecondLoad can r) = inr (refused_is_bad t b report r)

  -- ---- each ending

  same : (report : List ℕ) → AreSame t a b report → CompareMeans t a b (ends 0 report)
  same report s = record {
    statuses = inl refl;
    same = λ n. s;
    same_where = λ h. refl;
    different = λ n. absurd (omega (arith, n));
    different_where = λ h. absurd (h.otherwise (alike_too s.of.first h.first s.of.second h.second s.of.alike));
    compared_where = λ f g. inl refl;
    bad = λ n. absurd (omega (arith, n));
    bad_where = λ bad. absurd (neither_bad s.of.first s.of.second bad);
    unwritten = refl;
  }

  different : (report : List ℕ) (d : AreDifferent t a b report) → IsPlain t a b report d → CompareMeans t a b (ends 5 report)
  different report d plain = record {
    statuses = inr (inr refl);
    same = λ n. absurd (omega (arith, n));
    same_where = λ h. absurd (alike_no_difference _ _ (alike_too h.first d.first h.second d.second h.alike) d.state d.differ);
    different = λ n. (d, plain);
    different_where = λ h. refl;
    compared_where = λ f g. inr refl;
    bad = λ n. absurd (omega (arith, n));
    bad_where = λ bad. absurd (neither_bad d.first d.second bad);
    unwritten = refl;
  }

  refused : (report : List ℕ) → IsBadPair → CompareMeans t a b (ends 4 report)
  refused report bad = record {
    statuses = inr (inl refl);
    same = λ n. absurd (omega (arith, n));
    same_where = λ h. absurd (neither_bad h.first h.second bad);
    different = λ n. absurd (omega (arith, n));
    different_where = λ h. absurd (neither_bad h.first h.second bad);
    compared_where = λ f g. absurd (neither_bad f g bad);
    bad = λ n. bad;
    bad_where = λ also. refl;
    unwritten = refl;
  }

  pub compare_means : (e : Ending) → CompareEnds t a b e → CompareMeans t a b e
  compare_means e (inl (report, s, is)) = subst (λ (x : Ending). CompareMeans t a b x) (sym is) (same report s)
  compare_means e (inr (inl (report, d, plain, is))) = subst (λ (x : Ending). CompareMeans t a b x) (sym is) (different report d plain)
  compare_means e (inr (inr (report, r, is))) = subst (λ (x : Ending). CompareMeans t a b x) (sym is) (refused report (bad_pair report r))
