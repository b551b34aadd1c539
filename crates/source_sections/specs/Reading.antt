-- What walks over sections leave, one after another (this project's rule).
use Rattle.std.specs.Prelude.{ℕ, Bool, List, [], map}
use Rattle.pld_device.specs.Table.{Table}
use Rattle.abel_tree.specs.declared.names.Names.{Names}
use Rattle.abel_tree.specs.declared.sections.Section.{Section}
use Rattle.abel_tree.specs.Tree.{SectionTree}
use Rattle.abel_tree.specs.View.{view_section}
use Rattle.abel_meaning.specs.FormulaBits.{formulas}
use Rattle.abel_meaning.specs.Sections.{section_gives, sections_give}
use Rattle.section_targets.specs.declared.manner.Manner.{Manner}
use Rattle.section_targets.specs.declared.walked.Walked.{Walked}
use Rattle.set_expr.specs.Contexts.{context_for}
use Rattle.section_targets.specs.Manners.{AreFirsts}
use Rattle.section_targets.specs.Walking.{Walks}
use Rattle.source_sections.specs.SectionUnits.{section_manners, sections_manners, section_places, sections_places, units_of_section, units_of_sections}

abbrev pub view_sections : List Section → List SectionTree
view_sections list = map view_section list

-- a section where `@DCSET` is in force or not, as the block with this number if it is one, after what was walked
-- before
abbrev pub WalksSection : Table → Names → (on : Bool) → (block : ℕ) → SectionTree → (old new : Walked) → Type 0
WalksSection t n on block s old new =
    (all : List Manner) → AreFirsts old.before all
    → Walks all (units_of_section (context_for t n) all s)
    (section_gives (formulas (context_for t n)) (context_for t n) on block s)
    (section_places (context_for t n) s) (section_manners (context_for t n) all s) old new

-- sections one after another, before which nothing is assigned
abbrev pub WalksSections : Table → Names → (on : Bool) → List SectionTree → (old new : Walked) → Type 0
WalksSections t n on ss old new =
    Walks [] (units_of_sections (context_for t n) [] ss)
    (sections_give (formulas (context_for t n)) (context_for t n) on 0 ss)
    (sections_places (context_for t n) ss) (sections_manners (context_for t n) [] ss) old new
