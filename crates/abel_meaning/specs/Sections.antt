-- What all sections of a module contribute (ABEL-HDL Reference Manual, sections of a module).
use Rattle.std.specs.Prelude.{ℕ, suc, Bool, true, Option, None, Some, List, [], ◌∷◌, ◌++◌}
use Rattle.abel_meaning.specs.Prelude.{statements_of, SectionTree, Equations, ATable, ADiagram}
use Rattle.abel_meaning.specs.Terms.{term_of}
use Rattle.abel_meaning.specs.Designs.{Context, Design}
use Rattle.abel_meaning.specs.Contributions.{Evaluator, Contribution, Guard}
use Rattle.abel_meaning.specs.Statements.{statements_give}
use Rattle.abel_meaning.specs.Tables.{table_gives}
use Rattle.abel_meaning.specs.Diagrams.{diagram_gives}
use Rattle.abel_meaning.specs.Directives.{after_section}

-- the number of the next block after a section
abbrev pub next_block : ℕ → SectionTree → ℕ
next_block block (ATable place inputs clocked outputs rows) = suc block
next_block block (ADiagram place registers states) = suc block
next_block block _ = block

-- the guard of an EQUATIONS section, and of a block that begins with the directive in force or not
abbrev pub unguarded : {W : Type 0} → Evaluator W → (dontcare : Bool) → Option ℕ → Guard W
unguarded ev on block = record { holds = ev.constant true; dontcare = on; block = block }

-- what a section gives
abbrev pub section_gives : {W : Type 0} → Evaluator W → Context → (dontcare : Bool) → (block : ℕ)
    → SectionTree → List (Contribution W)
section_gives ev d on block (Equations ss) = statements_give ev d (unguarded ev on None) (statements_of ss)
section_gives ev d on block (ATable place inputs clocked outputs rows) =
    table_gives ev d (unguarded ev on (Some block)) clocked (term_of d.known inputs) (term_of d.known outputs) rows
section_gives ev d on block (ADiagram place registers states) =
    diagram_gives ev d (unguarded ev on (Some block)) (term_of d.known registers) states
section_gives ev d on block _ = []

-- what sections give, the first of which begins with the directive in force or not
abbrev pub sections_give : {W : Type 0} → Evaluator W → Context → (dontcare : Bool) → (block : ℕ)
    → List SectionTree → List (Contribution W)
sections_give ev d on block [] = []
sections_give ev d on block (s ∷ ss) =
    section_gives ev d on block s ++ sections_give ev d (after_section on s) (next_block block s) ss

-- all contributions of a module, in order of the source
abbrev pub contributions : {W : Type 0} → Evaluator W → Design → List (Contribution W)
contributions ev d = sections_give ev d.context d.starts_dontcare 0 d.sections
