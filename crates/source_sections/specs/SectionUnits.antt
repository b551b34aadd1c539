-- The units of the sections of a source in order, with what is refused of each and the nodes that it makes (ABEL-HDL
-- Reference Manual, sections of a module; units are this project's rule).
use Rattle.std.specs.Prelude.{true, List, [], ◌∷◌, ◌++◌}
use Rattle.pld_base.specs.declared.place.Place.{Place}
use Rattle.bit_expr.specs.Formulas.{Const}
use Rattle.abel_tree.specs.Tree.{statements_of, SectionTree, Equations, ATable, ADiagram}
use Rattle.abel_meaning.specs.Designs.{Context}
use Rattle.section_targets.specs.declared.manner.Manner.{Manner}
use Rattle.section_targets.specs.TargetSignals.{target_member}
use Rattle.section_targets.specs.Units.{CountedUnit}
use Rattle.equations.specs.StatementUnits.{statements_manners, statements_places, units_of_statements}
use Rattle.truth_tables.specs.OutputHeaders.{output_header}
use Rattle.truth_tables.specs.TableUnits.{assigned_by, table_places, units_of_table}
use Rattle.state_diagrams.specs.DiagramUnits.{diagram_manners, units_of_diagram}
use Rattle.state_diagrams.specs.DiagramPlaces.{diagram_places}

-- how a section assigns signals after what was assigned before, in order; vectors assign none
abbrev pub section_manners : Context → List Manner → SectionTree → List Manner
section_manners d before (Equations ss) = statements_manners d (statements_of ss)
section_manners d before (ATable place inputs clocked outputs rows) = assigned_by clocked (output_header d outputs)
section_manners d before (ADiagram place registers states) = diagram_manners d before (target_member d registers) states
section_manners d before _ = []

abbrev pub sections_manners : Context → List Manner → List SectionTree → List Manner
sections_manners d before [] = []
sections_manners d before (s ∷ ss) =
    section_manners d before s ++ sections_manners d (before ++ section_manners d before s) ss

-- the places of what a section gives, in order
abbrev pub section_places : Context → SectionTree → List Place
section_places d (Equations ss) = statements_places d (statements_of ss)
section_places d (ATable place inputs clocked outputs rows) = table_places d outputs rows
section_places d (ADiagram place registers states) = diagram_places d registers states
section_places d _ = []

abbrev pub sections_places : Context → List SectionTree → List Place
sections_places d [] = []
sections_places d (s ∷ ss) = section_places d s ++ sections_places d ss

-- the units of a section after what was assigned before; nothing surrounds its statements, and what is refused of
-- vectors is a list of its own
abbrev pub units_of_section : Context → List Manner → SectionTree → List CountedUnit
units_of_section d before (Equations ss) = units_of_statements d (Const true) before (statements_of ss)
units_of_section d before (ATable place inputs clocked outputs rows) = units_of_table d before place inputs clocked outputs rows
units_of_section d before (ADiagram place registers states) = units_of_diagram d before place registers states
units_of_section d before _ = []

abbrev pub units_of_sections : Context → List Manner → List SectionTree → List CountedUnit
units_of_sections d before [] = []
units_of_sections d before (s ∷ ss) =
    units_of_section d before s ++ units_of_sections d (before ++ section_manners d before s) ss
