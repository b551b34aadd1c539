-- Sections and modules, read from left to right (a helper of the parser's own contracts).
use Rattle.std.specs.Prelude.{ℕ, Bool, List, [], ◌∷◌, Option}
use Rattle.abel_grammar.specs.Prelude.{Token, Word, Declaration, SectionTree, DontCareSection, ModuleTree}
use Rattle.abel_grammar.specs.Reading.{Reader, read_followed, ◌then_read◌, read_either, read_optional, read_repeated, read_made}
use Rattle.abel_grammar.specs.Further.{flatten, read_unless}
use Rattle.abel_grammar.specs.declared.terminal.Terminal.{Terminal}
use Rattle.abel_grammar.specs.declared.terminal.Terminal.TheVariants as terminal
use Rattle.abel_grammar.specs.Terminals.{among}
use Rattle.abel_grammar.specs.WordReaders.{read_one, read_name, read_text, read_end, read_dont_care}
use Rattle.abel_grammar.specs.StatementReaders.{read_stmts, read_stmt}
use Rattle.abel_grammar.specs.Declarations.{option_words}
use Rattle.abel_grammar.specs.DeclarationReaders.{read_option, read_decl, read_other_decl, decl_starts, other_starts}
use Rattle.abel_grammar.specs.TableReaders.{read_table, read_vectors}
use Rattle.abel_grammar.specs.DiagramReaders.{read_diagram}
use Rattle.abel_grammar.specs.Modules.{declarations_of, equations_of, takes_dont_care, section_group_of, decls_of, title_of, module_of}

unfoldable pub read_declarations : ℕ → Reader Token SectionTree
read_declarations n = read_made declarations_of (read_one terminal.Declarations then_read read_repeated (among decl_starts) (read_decl n))

unfoldable pub read_equations : ℕ → Reader Token SectionTree
read_equations n = read_made equations_of (read_one terminal.Equations then_read read_stmts (read_stmt n))

unfoldable pub read_proper : ℕ → Reader Token SectionTree
read_proper n =
    read_either (among (terminal.Declarations ∷ [])) (read_declarations n)
    (read_either (among (terminal.Equations ∷ [])) (read_equations n)
    (read_either (among (terminal.TruthTable ∷ [])) (read_table n)
    (read_either (among (terminal.StateDiagram ∷ [])) (read_diagram n) (read_vectors n))))

unfoldable pub read_dont_care_section : Reader Token SectionTree
read_dont_care_section = read_made DontCareSection read_dont_care

abbrev pub proper_starts : List Terminal
proper_starts = terminal.Declarations ∷ terminal.Equations ∷ terminal.TruthTable ∷ terminal.StateDiagram ∷ terminal.TestVectors ∷ []

-- a section, and the dc after it that are sections
abbrev pub read_free : Bool → Reader Token (List SectionTree)
read_free taken = read_unless taken [] (read_repeated (among (terminal.DontCare ∷ [])) read_dont_care_section)

abbrev pub read_section_group : ℕ → Reader Token (List SectionTree)
read_section_group n = read_made section_group_of (read_followed (read_proper n) (λ s. read_free (takes_dont_care s)))

unfoldable pub read_sections : ℕ → Reader Token (List SectionTree)
read_sections n = read_made flatten (read_repeated (among proper_starts) (read_section_group n))

unfoldable pub read_options : Reader Token (List Word)
read_options = read_made flatten (read_repeated (among option_words) read_option)

unfoldable pub read_first_decls : ℕ → Reader Token (List Declaration)
read_first_decls n =
    read_made decls_of
    (read_optional (among other_starts) (read_other_decl n then_read read_repeated (among decl_starts) (read_decl n)))

unfoldable pub read_title : Reader Token Word
read_title = read_made title_of (read_one terminal.Title then_read read_text then_read read_end)

-- the sections, and what ends the module
abbrev pub read_ending : ℕ → Reader Token (List SectionTree × (Token × (Option Token × Option Token)))
read_ending n =
    read_sections n then_read read_one terminal.End
    then_read read_optional (among (terminal.Identifier ∷ [])) (read_one terminal.Identifier) then_read read_end

-- what follows the module's name and title
abbrev pub Body : Type 0
Body = List Word × (List Declaration × (List SectionTree × (Token × (Option Token × Option Token))))

abbrev pub read_body : ℕ → Reader Token Body
read_body n = read_options then_read read_first_decls n then_read read_ending n

unfoldable pub read_source : ℕ → Reader Token ModuleTree
read_source n =
    read_made module_of
    (read_one terminal.Module then_read read_name then_read read_end
    then_read read_optional (among (terminal.Title ∷ [])) read_title then_read read_body n)
