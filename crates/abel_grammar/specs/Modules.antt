-- Sections and modules (ABEL-HDL Reference Manual, source file structure).
use Rattle.std.specs.Prelude.{ℕ, Bool, true, false, List, [], ◌∷◌, Option, None, Some}
use Rattle.abel_grammar.specs.Prelude.{Token, Word, Statement, Declaration, StateTree, SectionTree, Declarations, Equations, ATable, ADiagram, SomeVectors, DontCareSection, ModuleTree}
use Rattle.abel_grammar.specs.Form.{Form, ◌then◌, followed, either, optional, repeated, made}
use Rattle.abel_grammar.specs.Further.{flatten, unless}
use Rattle.abel_grammar.specs.declared.terminal.Terminal.TheVariants as terminal
use Rattle.abel_grammar.specs.Words.{one, name, text, end, dont_care}
use Rattle.abel_grammar.specs.Statements.{stmt}
use Rattle.abel_grammar.specs.Declarations.{option, decl, other_decl}
use Rattle.abel_grammar.specs.Tables.{table, vectors}
use Rattle.abel_grammar.specs.Diagrams.{diagram}

-- DECLARATIONS {decl}        EQUATIONS {stmt}
abbrev pub declarations_of : Token × List Declaration → SectionTree
declarations_of x = Declarations x.1

unfoldable pub declarations : ℕ → Form Token SectionTree
declarations n = made declarations_of (one terminal.Declarations then repeated (decl n))

abbrev pub equations_of : Token × List Statement → SectionTree
equations_of x = Equations x.1

unfoldable pub equations : ℕ → Form Token SectionTree
equations n = made equations_of (one terminal.Equations then repeated (stmt n))

-- section = DECLARATIONS {decl} | EQUATIONS {stmt} | table | diagram | vectors | dc, here without dc
unfoldable pub proper : ℕ → Form Token SectionTree
proper n = either (declarations n) (either (equations n) (either (table n) (either (diagram n) (vectors n))))

unfoldable pub dont_care_section : Form Token SectionTree
dont_care_section = made DontCareSection dont_care

-- Whether a dc after the section is one of its declarations or statements.
abbrev pub is_empty : {A : Type 0} → List A → Bool
is_empty [] = true
is_empty (x ∷ xs) = false

abbrev pub last_is_bare : List StateTree → Bool
last_is_bare [] = false
last_is_bare (s ∷ []) = is_empty s.transitions
last_is_bare (s ∷ t ∷ more) = last_is_bare (t ∷ more)

abbrev pub takes_dont_care : SectionTree → Bool
takes_dont_care (Declarations ds) = true
takes_dont_care (Equations ss) = true
takes_dont_care (ATable p i c o rows) = false
takes_dont_care (ADiagram p r states) = last_is_bare states
takes_dont_care (SomeVectors t p i o rows) = false
takes_dont_care (DontCareSection d) = false

-- a section, and the dc after it that are sections; before the first section a dc is a declaration
abbrev pub section_group_of : SectionTree × List SectionTree → List SectionTree
section_group_of x = x.0 ∷ x.1

unfoldable pub sections : ℕ → Form Token (List SectionTree)
sections n =
    made flatten
    (repeated (made section_group_of (followed (proper n) (λ s. unless (takes_dont_care s) [] (repeated dont_care_section)))))

-- {option}
unfoldable pub options : Form Token (List Word)
options = made flatten (repeated option)

-- {option} {decl}: an option that could be in both is in {option}
abbrev pub decls_of : Option (Declaration × List Declaration) → List Declaration
decls_of None = []
decls_of (Some (d, ds)) = d ∷ ds

unfoldable pub first_decls : ℕ → Form Token (List Declaration)
first_decls n = made decls_of (optional (other_decl n then repeated (decl n)))

-- TITLE string [;]
abbrev pub title_of : Token × (Word × Option Token) → Word
title_of x = x.1.0

unfoldable pub title : Form Token Word
title = made title_of (one terminal.Title then text then end)

-- module = MODULE id [;] [TITLE string [;]] {option} {decl} {section} END [id] [;]
abbrev pub Parts : Type 0
Parts = Token × (Word × (Option Token × (Option Word × (List Word × (List Declaration × (List SectionTree × (Token × (Option Token × Option Token))))))))

abbrev pub module_of : Parts → ModuleTree
module_of x = record {
  place = x.0.place;
  name = x.1.0;
  title = x.1.1.1.0;
  options = x.1.1.1.1.0;
  decls = x.1.1.1.1.1.0;
  sections = x.1.1.1.1.1.1.0;
}

unfoldable pub source : ℕ → Form Token ModuleTree
source n =
    made module_of
    (one terminal.Module then name then end then optional title then options then first_decls n
    then sections n then one terminal.End then optional (one terminal.Identifier) then end)
