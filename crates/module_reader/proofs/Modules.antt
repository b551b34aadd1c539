-- Each front of the tokens of a module begins it, at each depth of nesting.
use Rattle.std.proofs.Common.{ℕ, []}
use Rattle.module_reader.proofs.Common.{Declarations, Equations, Module, End, Title, Identifier, declarations, equations, proper, dont_care_section, takes_dont_care, sections, options, first_decls, title, source}
use Rattle.module_reader.proofs.Forms.{Begun, followed_begun, then_begun, made_begun, or_begun, some_begun, unless_begun, many_begun}
use Rattle.module_reader.proofs.Expressions.{one_begun, end_begun, name_begun, text_begun, dont_care_begun}
use Rattle.module_reader.proofs.Statements.{stmt_begun}
use Rattle.module_reader.proofs.Declarations.{option_begun, decl_begun, other_decl_begun}
use Rattle.module_reader.proofs.Diagrams.{diagram_begun}
use Rattle.module_reader.proofs.Tables.{table_begun, vectors_begun}

-- ---- sections

declarations_begun : (n : ℕ) → Begun (declarations n)
unfolding declarations
declarations_begun n = made_begun (then_begun (one_begun Declarations) (many_begun (decl_begun n)))

equations_begun : (n : ℕ) → Begun (equations n)
unfolding equations
equations_begun n = made_begun (then_begun (one_begun Equations) (many_begun (stmt_begun n)))

proper_begun : (n : ℕ) → Begun (proper n)
unfolding proper
proper_begun n =
    or_begun (declarations_begun n) (or_begun (equations_begun n) (or_begun (table_begun n) (or_begun (diagram_begun n) (vectors_begun n))))

dont_care_section_begun : Begun dont_care_section
unfolding dont_care_section
dont_care_section_begun = made_begun dont_care_begun

sections_begun : (n : ℕ) → Begun (sections n)
unfolding sections
sections_begun n =
    made_begun
    (many_begun (made_begun (followed_begun (proper_begun n) (λ s. unless_begun (takes_dont_care s) [] (many_begun dont_care_section_begun)))))

-- ---- the module

options_begun : Begun options
unfolding options
options_begun = made_begun (many_begun option_begun)

first_decls_begun : (n : ℕ) → Begun (first_decls n)
unfolding first_decls
first_decls_begun n = made_begun (some_begun (then_begun (other_decl_begun n) (many_begun (decl_begun n))))

title_begun : Begun title
unfolding title
title_begun = made_begun (then_begun (one_begun Title) (then_begun text_begun end_begun))

pub source_begun : (n : ℕ) → Begun (source n)
unfolding source
source_begun n =
    made_begun
    (then_begun (one_begun Module) (then_begun name_begun (then_begun end_begun (then_begun (some_begun title_begun)
    (then_begun options_begun (then_begun (first_decls_begun n) (then_begun (sections_begun n)
    (then_begun (one_begun End) (then_begun (some_begun (one_begun Identifier)) end_begun)))))))))
