-- What the sections of a source contribute, and when which answer occurs (ABEL-HDL Reference Manual, sections of a
-- module; the first refusal by place is this project's rule).
use Rattle.std.specs.Prelude.{◌≡◌, ◌+◌, Some, List, [], ◌++◌, length, map, Result, Ok, Err}
use Rattle.pld_device.specs.Table.{Table}
use Rattle.bit_expr.specs.Arena.{arena}
use Rattle.abel_tree.specs.declared.names.Names.{Names}
use Rattle.abel_tree.specs.Entries.{entries_of}
use Rattle.abel_tree.specs.FirstRefusal.{first_refusal}
use Rattle.abel_tree.specs.Tree.{ModuleTree}
use Rattle.abel_meaning.specs.Designs.{Design, design_for}
use Rattle.abel_meaning.specs.SignalReads.{given_formulas}
use Rattle.set_expr.specs.declared.contributions.Contribution.{Contribution}
use Rattle.set_expr.specs.declared.contributions.Contributions.{Contributions}
use Rattle.set_expr.specs.declared.fault.SectionFault.{SectionFault}
use Rattle.set_expr.specs.declared.fault.SectionFault.TheVariants as fault
use Rattle.set_expr.specs.FoundNames.{constants_refused}
use Rattle.set_expr.specs.Given.{given}
use Rattle.set_expr.specs.SectionOrder.{section_order}
use Rattle.section_targets.specs.Units.{CountedUnit, units_nodes, all_refused}
use Rattle.gathering.specs.Parts.{AllLieIn}
use Rattle.source_sections.specs.SectionUnits.{units_of_sections, sections_places}

-- all units of a source
abbrev pub source_units : Design → List CountedUnit
source_units d = units_of_sections d.context [] d.sections

-- all that is refused of constants and sections, the limit of nodes too
abbrev pub sections_refused : Design → List SectionFault
sections_refused d = constants_refused d.context.names ++ all_refused (length (arena [])) (source_units d)

-- nothing is refused, and just what the source says is contributed, in just the counted nodes
pub record AreContributed (d : Design) (found : Contributions) : Type 0 where
  pub accepted : sections_refused d ≡ []
  pub inside : AllLieIn (length (arena found.exprs)) found.list
  pub gives : given found ≡ given_formulas d
  pub places : map (λ (c : Contribution). c.place) found.list ≡ sections_places d.context d.sections
  pub nodes : length (arena found.exprs) ≡ length (arena []) + units_nodes (source_units d)

-- lack of memory, or the first of refusals
abbrev pub IsTold : List SectionFault → SectionFault → Type 0
IsTold rs fault.OutOfMemory = Unit {0}
IsTold rs f = first_refusal section_order rs ≡ Some f

-- the answer for the sections of a design
abbrev pub AnswersSections : Design → Result Contributions SectionFault → Type 0
AnswersSections d (Ok found) = AreContributed d found
AnswersSections d (Err f) = IsTold (sections_refused d) f

-- and for those of a module whose names are these
abbrev pub AnswersModule : Table → Names → ModuleTree → Result Contributions SectionFault → Type 0
AnswersModule t n m r = AnswersSections (design_for t (entries_of n) m) r
