-- What each phase refuses, as a refusal of the module for a device, and what a compiled module is.
use Rattle.std.proofs.Common.{◌≡◌, ℕ, Some, List, Err, subst}
use Rattle.compile_phases.proofs.Common.{Table, Netlist, Entry, ModuleTree, names_of, fit_text, NoneWide, FitFault, FitAnswers, CompileFault, Source, Place, Fit, OutOfMemory, SourceFault, Expand, Scan, Parse, Names, Sections, Design, Width, IsOfFit, IsWidthFault, IsFitRefused, IsNetlistFor, IsRefusedFor, IsAcceptedFor, IsRefusedSo}
use Rattle.fitter.specs.declared.fault.FitFault.TheVariants as fit

-- ---- the fit

-- if a fault of the fit is reported, no cell is too wide
none_wide : (t : Table) (net : Netlist) (f : FitFault) → IsOfFit f → FitAnswers t net (Err f) → NoneWide t net
none_wide t net (fit.TooWide c) is h = absurd is
none_wide t net (fit.NotShared which a b point) is h = h.0
none_wide t net fit.ResetTooWide is h = h.0
none_wide t net fit.PresetTooWide is h = h.0
none_wide t net (fit.EnableTooWide c) is h = h.0
none_wide t net (fit.TooManyProducts c tried) is h = h.controls.wide
none_wide t net fit.OutOfMemory is h = absurd is

-- the module is accepted if none is
pub accepted_for : (t : Table) (m : ModuleTree) (net : Netlist) → IsNetlistFor t m net → NoneWide t net → IsAcceptedFor t m
accepted_for t m net is none = record { before = is.design; net = net; netlist = is.netlist; width = none }

by_width : (t : Table) (m : ModuleTree) (es : List Entry) (net : Netlist) (f : SourceFault) (line : List ℕ) → es ≡ names_of t m → IsNetlistFor t m net
    → IsWidthFault t es net f line → IsRefusedSo f line t m
by_width t m es net (Width (fit.TooWide c)) line names is h =
    record {
      before = is.design;
      net = net;
      netlist = is.netlist;
      first = h.0;
      told = subst (λ (xs : List Entry). fit_text t xs net (fit.TooWide c) ≡ Some line) names h.1;
    }
by_width t m es net (Width (fit.NotShared which a b point)) line names is h = absurd h
by_width t m es net (Width fit.ResetTooWide) line names is h = absurd h
by_width t m es net (Width fit.PresetTooWide) line names is h = absurd h
by_width t m es net (Width (fit.EnableTooWide c)) line names is h = absurd h
by_width t m es net (Width (fit.TooManyProducts c tried)) line names is h = absurd h
by_width t m es net (Width fit.OutOfMemory) line names is h = absurd h
by_width t m es net (Expand f) line names is h = absurd h
by_width t m es net (Scan f) line names is h = absurd h
by_width t m es net (Parse f) line names is h = absurd h
by_width t m es net (Names f) line names is h = absurd h
by_width t m es net (Sections f) line names is h = absurd h
by_width t m es net (Design f) line names is h = absurd h

pub by_fit : (t : Table) (m : ModuleTree) (es : List Entry) (net : Netlist) (e : CompileFault) → es ≡ names_of t m → IsNetlistFor t m net
    → IsFitRefused t es net e → IsRefusedFor t m e
by_fit t m es net (Source f line) names is h = by_width t m es net f line.items names is h
by_fit t m es net (Place f line) names is h = absurd h
by_fit t m es net (Fit f line) names is h = (
  h.0,
  record {
    accepted = accepted_for t m net is (none_wide t net f h.0 h.1);
    net = net;
    netlist = is.netlist;
    unfit = h.1;
    told = subst (λ (xs : List Entry). fit_text t xs net f ≡ Some line.items) names h.2;
  },
)
by_fit t m es net OutOfMemory names is h = tt
