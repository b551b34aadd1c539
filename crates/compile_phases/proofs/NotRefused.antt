-- A module that is accepted and fits as it is written is refused only for lack of memory.
use Rattle.std.proofs.Common.{◌≡◌, ◌≢◌, ℕ, Some, None, List, [], refl, sym, ap, ◌∙◌}
use Rattle.compile_phases.proofs.Common.{IsDevice, Table, arena, Ranks, first_refusal, ModuleTree, design_of, names_of, name_order, DesignFault, FitFault, CompileFault, Source, Place, Fit, OutOfMemory, SourceFault, Expand, Scan, Parse, Names, Sections, Design, Width, FitsAsWritten, IsOfFit, IsUnfitFor, IsRefusedFor, HasDesign, IsAcceptedFor, IsDesignRefusedFor, IsRefusedSo}
use Rattle.design_checks.specs.declared.fault.DesignFault.TheVariants as designing
use Rattle.reports.specs.Designs.{design_text}
use Rattle.set_expr.specs.SectionOrder.{section_order}
use Rattle.fitter.specs.declared.fault.FitFault.TheVariants as fit
use Rattle.compile_phases.proofs.SameCells.{not_wide, not_unfit}
use Rattle.compile_phases.proofs.SameContributions.{not_refused}

-- nothing of none is the first
pub no_first : {F : Type 0} (o : Ranks F) (fs : List F) (f : F) → fs ≡ [] → first_refusal o fs ≡ Some f → ⊥
no_first o fs f none first = let gone : None ≡ Some f = sym (ap (first_refusal o) none) ∙ first in absurd (cc)

-- a design of which nothing is refused is not refused by other contributions of its sections
not_refused_for : (t : Table) (m : ModuleTree) (f : DesignFault) → f ≢ designing.OutOfMemory → HasDesign t m → IsDesignRefusedFor t m f → ⊥
not_refused_for t m f memory has refused =
    not_refused (design_of t m) (arena has.found.exprs) (arena refused.found.exprs) has.found.list refused.found.list
    (has.contributed.gives ∙ sym refused.contributed.gives) (has.contributed.places ∙ sym refused.contributed.places) f memory has.unrefused refused.refused

module _ (t : Table) (m : ModuleTree) (laws : IsDevice t) (accepted : IsAcceptedFor t m) where
  pub not_source : (f : SourceFault) (line : List ℕ) → IsRefusedSo f line t m → ⊥
  not_source (Names f) line h = no_first name_order _ f accepted.before.before.names h.0
  not_source (Sections f) line h = no_first section_order _ f accepted.before.before.sections h.1
  not_source (Design f) line h =
      not_refused_for t m f
      (λ memory. absurd (untold (sym (ap (design_text (names_of t m)) memory) ∙ h.2))) accepted.before h.1
    where
      untold : None ≡ Some line → ⊥
      untold e = absurd (cc)
  not_source (Width (fit.TooWide c)) line h =
      not_wide t laws accepted.net h.net accepted.netlist.sound h.netlist.sound (accepted.netlist.plain ∙ sym h.netlist.plain) accepted.width c h.first
  not_source (Width (fit.NotShared which a b point)) line h = h
  not_source (Width fit.ResetTooWide) line h = h
  not_source (Width fit.PresetTooWide) line h = h
  not_source (Width (fit.EnableTooWide c)) line h = h
  not_source (Width (fit.TooManyProducts c tried)) line h = h
  not_source (Width fit.OutOfMemory) line h = h
  not_source (Expand f) line h = h
  not_source (Scan f) line h = h
  not_source (Parse f) line h = h

  module _ (fits : FitsAsWritten t m) where
    pub not_fit : (f : FitFault) (line : List ℕ) → IsOfFit f → IsUnfitFor f line t m → ⊥
    not_fit f line of_fit h =
        not_unfit t laws fits.net h.net fits.netlist.sound h.netlist.sound (fits.netlist.plain ∙ sym h.netlist.plain) fits.controls fits.rooms f of_fit
        h.unfit

    pub not_for : (e : CompileFault) → e ≢ OutOfMemory → IsRefusedFor t m e → ⊥
    not_for (Source f line) memory h = not_source f line.items h
    not_for (Place f line) memory h = h
    not_for (Fit f line) memory h = not_fit f line.items h.0 h.1
    not_for OutOfMemory memory h = memory refl
