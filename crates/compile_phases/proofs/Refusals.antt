-- Refusals by what they are reported as.
use Rattle.std.proofs.Common.{◌≡◌, ℕ, Some, List, Err, sym, subst}
use Rattle.compile_phases.proofs.Common.{Table, Netlist, Entry, fit_text, FitFault, FitAnswers, CompileFault, OutOfMemory, IsFitRefused}
use Rattle.std.specs.Global.{Vec}
use Rattle.source_sections.specs.SectionAnswers.{IsTold}
use Rattle.fitter.specs.declared.fault.FitFault.TheVariants as fit
use Rattle.compile_phases.specs.Phases as phases

-- a fault of the fit that is reported
pub told_fit : (t : Table) (es : List Entry) (net : Netlist) (f : FitFault) (line : Vec ℕ) (e : CompileFault) → FitAnswers t net (Err f)
    → fit_text t es net f ≡ Some line.items → phases.IsTold f line e → IsFitRefused t es net e
told_fit t es net (fit.TooWide c) line e h told is = subst (IsFitRefused t es net) (sym is) (h, told)
told_fit t es net (fit.NotShared which a b point) line e h told is = subst (IsFitRefused t es net) (sym is) (tt, h, told)
told_fit t es net fit.ResetTooWide line e h told is = subst (IsFitRefused t es net) (sym is) (tt, h, told)
told_fit t es net fit.PresetTooWide line e h told is = subst (IsFitRefused t es net) (sym is) (tt, h, told)
told_fit t es net (fit.EnableTooWide c) line e h told is = subst (IsFitRefused t es net) (sym is) (tt, h, told)
told_fit t es net (fit.TooManyProducts c tried) line e h told is = subst (IsFitRefused t es net) (sym is) (tt, h, told)
told_fit t es net fit.OutOfMemory line e h told is = absurd cc
