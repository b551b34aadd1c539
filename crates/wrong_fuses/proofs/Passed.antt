-- A chip that passes the vectors, with at most one wrong fuse that is neither missed nor refused.
use Rattle.std.proofs.Common.{◌≡◌, ℕ, Bool, true, false, List, [], ◌∷◌, refl, sym, subst}
use Rattle.wrong_fuses.proofs.Common.{true≢false, device_determined, IsVectorRun, AreAlike, RunsAlike, SameShown, ShowSame, CanBeLoaded, Logic, Levels, IsDevice, device_logic, own_pins, Table, with_wrong, AreJudged, IsFound, IsJudged, IsVerdict, Judged, Verdict}
use Rattle.fuse_compare.proofs.RunsAlike.{runs_too}
use Rattle.jedec_file.specs.FuseFile.{FuseFile}
use Rattle.wrong_fuses.specs.Passing.{ShowsTheRight, is_decided}
use Rattle.wrong_fuses.specs.Passing.HasOneWrongAtMost.{None as Right, One}
use Rattle.wrong_fuses.specs.declared.verdict.Verdict.TheVariants.{Found, Same, Missed, Refused, OtherMode}

-- a logic shows what it shows
shown_same : (m : Logic) (points : List Levels) → SameShown m m points
shown_same m [] = tt
shown_same m (at ∷ points) = (λ c within. refl, shown_same m points)

runs_same : (m : Logic) → RunsAlike m m
runs_same m outsides wide points run = (run, shown_same m points)

module _ (t : Table) (a b : List Bool) where
  show_back : (at other : Levels) → ShowSame (device_logic t a) (device_logic t b) at other → ShowSame (device_logic t b) (device_logic t a) other at
  show_back at other same = record { pins = sym same.pins; q = sym same.q; enabled = λ c within. sym (same.enabled c within) }

module _ (t : Table) (a b : List Bool) (alike : AreAlike (device_logic t a) (device_logic t b)) where
  alike_back : AreAlike (device_logic t b) (device_logic t a)
  alike_back = record {
    rest = λ o s o_wide s_wide d. alike.rest o s o_wide s_wide (record {
      at = d.other;
      other = d.at;
      first = d.second;
      second = d.first;
      differ = λ same. d.differ (show_back t a b d.other d.at same);
    });
    edge = λ o s o_wide s_wide d. alike.edge o s o_wide s_wide (record {
      at = d.other;
      other = d.at;
      first = d.second;
      second = d.first;
      same = show_back t b a d.at d.other d.same;
      clock = d.clock;
      low = d.low;
      differ = λ same. d.differ (λ c below q. sym (same c below q));
    });
  }

-- devices that are alike have the same runs
runs_of : (t : Table) → IsDevice t → (a b : List Bool) → CanBeLoaded t b → AreAlike (device_logic t a) (device_logic t b) → RunsAlike (device_logic t a) (device_logic t b)
runs_of t laws a b loaded alike =
    runs_too (device_logic t a) (device_logic t b) refl (own_pins t laws).clock (λ n low. refl) (λ n low. refl)
    (device_determined t b laws loaded.no_loop loaded.no_path).rests alike

-- a chip that a vector finds doesn't pass
not_passed : (m : Logic) (vectors : List (List ℕ)) (v : ℕ) → IsFound m vectors v → (default : Bool) → IsVectorRun m default vectors [] → ⊥
not_passed m vectors v found false run = let e = found.at_low [] run in cc
not_passed m vectors v found true run = let e = found.at_high [] run in cc

module _ (t : Table) (laws : IsDevice t) (file : FuseFile) (loaded : CanBeLoaded t file.fuses) where
  by_verdict : (wrong : List Bool) (verdict : Verdict) → is_decided verdict ≡ true → IsVerdict t file wrong verdict
      → (default : Bool) → IsVectorRun (device_logic t wrong) default file.vectors []
      → RunsAlike (device_logic t wrong) (device_logic t file.fuses) × RunsAlike (device_logic t file.fuses) (device_logic t wrong)
  by_verdict wrong (Found v) decided is default run = absurd (not_passed (device_logic t wrong) file.vectors v is.1 default run)
  by_verdict wrong Same decided is default run =
      (runs_of t laws wrong file.fuses loaded (alike_back t file.fuses wrong is.1), runs_of t laws file.fuses wrong is.0 is.1)
  by_verdict wrong Missed decided is default run = absurd (true≢false (sym decided))
  by_verdict wrong (Refused fault) decided is default run = absurd (true≢false (sym decided))
  by_verdict wrong OtherMode decided is default run = absurd (true≢false (sym decided))

  pub shows_the_right : (list : List Judged) → AreJudged t file list → ShowsTheRight t file list
  shows_the_right list judged chip Right default run = (runs_same (device_logic t file.fuses), runs_same (device_logic t file.fuses))
  shows_the_right list judged chip (One it at decided) default run =
      by_verdict (with_wrong file.fuses it.fuse) it.verdict decided (subst (IsJudged t file) at.2 (judged.each at.0 it at.1)) default run
