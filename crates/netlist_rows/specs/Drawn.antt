-- What is known of a source whose sections are read (this project's rule).
use Rattle.std.specs.Prelude.{◌≡◌, length}
use Rattle.netlist_rows.specs.Prelude.{Table, arena, entries_of, SoundNames, view_module, design_of, names_of}
use Rattle.design.specs.Accepted.{IsAccepted}
use Rattle.abel_meaning.specs.SignalReads.{given_formulas}
use Rattle.set_expr.specs.Given.{given}
use Rattle.gathering.specs.Parts.{AllLieIn}
use Rattle.netlist_rows.specs.declared.drawing.Drawn.{Drawn}

-- its names are sound and those of its module, which is accepted, and its contributions those of the module's sections
pub record IsDrawn (t : Table) (d : Drawn) : Type 0 where
  pub sound : SoundNames t.name t.pins d.names
  pub names : entries_of d.names ≡ names_of t (view_module d.module)
  pub accepted : IsAccepted (design_of t (view_module d.module))
  pub gives : given d.contributions ≡ given_formulas (design_of t (view_module d.module))
  pub inside : AllLieIn (length (arena d.contributions.exprs)) d.contributions.list
