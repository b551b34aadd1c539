-- Nothing is refused of sections that are found.
use Rattle.std.proofs.Common.{◌≡◌, [], ◌++◌, ap₂, List}
use Rattle.abel_meaning.specs.Designs.{Design}
use Rattle.set_expr.specs.declared.fault.SectionFault.{SectionFault}
use Rattle.abel_vectors.specs.declared.joining.SourceSections.{SourceSections}
use Rattle.abel_vectors.specs.AllSections.{AreSections, all_sections_refused}

pub nothing_refused : (d : Design) (found : SourceSections) → AreSections d found → all_sections_refused d ≡ []
nothing_refused d found is = ap₂ (λ (rs ss : List SectionFault). rs ++ ss) is.contributed.accepted is.vectors.accepted
