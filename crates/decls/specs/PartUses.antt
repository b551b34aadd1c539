-- The uses of the parts of a section, one after the other.
use Rattle.std.specs.Prelude.{Option, None, Some, List, fold}
use Rattle.decls.specs.Prelude.{Table, Word, Tree, SectionTree, Declarations, Use, OneName, Range, PartedSection}
use Rattle.name_uses.specs.NamesUsed.{UsedName, names_used}
use Rattle.name_uses.specs.Parts.{PartTree}
use Rattle.decls.specs.Steps.{Progress, used}
use Rattle.decls.specs.Walked.{declaration_step}

abbrev pub use_to : (first : Word) → (last : Option Word) → Use
use_to first None = OneName first
use_to first (Some last) = Range first last

-- the use of a name or of a range, whatever its extension
abbrev pub use_of : UsedName → Use
use_of u = use_to u.first u.last

abbrev pub name_step : Progress → UsedName → Progress
name_step s u = used s (use_of u)

-- a value of a constant
abbrev pub value_step : Progress → Tree → Progress
value_step s t = fold name_step s (names_used None t)

abbrev pub part_step : Progress → PartTree → Progress
part_step s p = fold name_step s p.uses

-- a section by its parts; one of DECLARATIONS declares
abbrev pub step_by : Table → Progress → SectionTree → List PartTree → Progress
step_by t s (Declarations ds) parts = fold (declaration_step t) s ds
step_by t s x parts = fold part_step s parts

abbrev pub parted_step : Table → Progress → PartedSection → Progress
parted_step t s x = step_by t s x.section x.parts
