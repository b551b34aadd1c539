-- What all sections of a source say, and when which answer occurs (ABEL-HDL Reference Manual, sections of a module;
-- the first refusal by place is this project's rule).
use Rattle.std.specs.Prelude.{List, ◌++◌, Result, Ok, Err}
use Rattle.abel_vectors.specs.Prelude.{Design, SectionFault, AreContributed, IsTold, sections_refused}
use Rattle.abel_vectors.specs.declared.joining.SourceSections.{SourceSections}
use Rattle.abel_vectors.specs.SourceVectors.{AreVectors, all_vectors_refused}

-- all that is refused of constants, sections and vectors
abbrev pub all_sections_refused : Design → List SectionFault
all_sections_refused d = sections_refused d ++ all_vectors_refused d

-- nothing is refused, and this is what the source says
pub record AreSections (d : Design) (found : SourceSections) : Type 0 where
  pub contributed : AreContributed d found.contributions
  pub vectors : AreVectors d found.vectors.items

-- the answer for the sections of a design
abbrev pub AnswersAll : Design → Result SourceSections SectionFault → Type 0
AnswersAll d (Ok found) = AreSections d found
AnswersAll d (Err f) = IsTold (all_sections_refused d) f
