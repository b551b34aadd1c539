-- The places of sections and modules lie along their tokens, at each depth of nesting.
use Rattle.std.proofs.Common.{◌≡◌, ℕ, List, [], ◌∷◌, ◌++◌, Option, Some, None, refl, sym, ap, subst, ◌∙◌}
use Rattle.abel_grammar.proofs.Common.{flat_map, append-nil, flatten, Spells, Place, Token, Declaration, ModuleTree, Declarations, Equations, Module, End, Title, Identifier, declarations, equations, proper, dont_care_section, takes_dont_care, sections, options, decls_of, first_decls, title, source, places_of_some, places_of_word, places_of_decl, places_of_section, places_of_module, Along}
use Rattle.std.proofs.lemmas.Grind.{flat_map-append}
use Rattle.abel_grammar.proofs.Forms.{Lies, followed_lies, both, behind, before, turned, or_lies, some_lies, many_lies, unless_lies}
use Rattle.abel_grammar.proofs.Expressions.{one_lies, end_lies, name_lies, text_lies, dont_care_lies}
use Rattle.abel_grammar.proofs.Statements.{stmt_lies}
use Rattle.abel_grammar.proofs.Declarations.{option_lies, decl_lies, other_decl_lies}
use Rattle.abel_grammar.proofs.Diagrams.{diagram_lies}
use Rattle.abel_grammar.proofs.Tables.{table_lies, vectors_lies}

-- ---- sections

declarations_lies : (n : ℕ) → Lies (declarations n) places_of_section
unfolding declarations
declarations_lies n = turned (λ x. refl) (behind (one_lies Declarations) (many_lies (decl_lies n)))

equations_lies : (n : ℕ) → Lies (equations n) places_of_section
unfolding equations
equations_lies n = turned (λ x. refl) (behind (one_lies Equations) (many_lies (stmt_lies n)))

pub proper_lies : (n : ℕ) → Lies (proper n) places_of_section
unfolding proper
proper_lies n =
    or_lies (declarations_lies n) (or_lies (equations_lies n) (or_lies (table_lies n) (or_lies (diagram_lies n) (vectors_lies n))))

pub dont_care_section_lies : Lies dont_care_section places_of_section
unfolding dont_care_section
dont_care_section_lies = turned (λ x. refl) dont_care_lies

in_flat : {A : Type 0} (p : A → List Place) (ls : List (List A)) → flat_map p (flatten ls) ≡ flat_map (flat_map p) ls
in_flat p [] = refl
in_flat p (l ∷ ls) = flat_map-append p l (flatten ls) ∙ ap (λ (m : List Place). flat_map p l ++ m) (in_flat p ls)

sections_lies : (n : ℕ) → Lies (sections n) (flat_map places_of_section)
unfolding sections
sections_lies n =
    turned (in_flat places_of_section)
    (many_lies (turned (λ x. refl)
    (followed_lies (proper_lies n) (λ s. unless_lies (takes_dont_care s) [] refl (many_lies dont_care_section_lies)))))

-- ---- the module

pub options_lies : Lies options (flat_map places_of_word)
unfolding options
options_lies = turned (in_flat places_of_word) (many_lies option_lies)

abbrev in_first : Option (Declaration × List Declaration) → List Place
in_first o = places_of_some (λ x. places_of_decl x.0 ++ flat_map places_of_decl x.1) o

in_decls : (o : Option (Declaration × List Declaration)) → flat_map places_of_decl (decls_of o) ≡ in_first o
in_decls None = refl
in_decls (Some x) = refl

pub first_decls_lies : (n : ℕ) → Lies (first_decls n) (flat_map places_of_decl)
unfolding first_decls
first_decls_lies n = turned in_decls (some_lies (both (other_decl_lies n) (many_lies (decl_lies n))))

pub title_lies : Lies title places_of_word
unfolding title
title_lies = turned (λ x. refl) (behind (one_lies Title) (before text_lies end_lies))

source_lies : (n : ℕ) → Lies (source n) places_of_module
unfolding source
source_lies n =
    turned (λ x. refl)
    (both (one_lies Module) (both name_lies (behind end_lies (both (some_lies title_lies)
    (both options_lies (both (first_decls_lies n) (before (sections_lies n)
    (behind (one_lies End) (behind (some_lies (one_lies Identifier)) end_lies)))))))))

-- the places of a tree lie along the tokens that spell it
pub places_lie : (ts : List Token) (m : ModuleTree) → Spells source ts m → Along ts (places_of_module m)
places_lie ts m s =
    let h = (source_lies s.0).along ts m [] s.1 in
    subst (λ (us : List Token). Along us (places_of_module m)) (sym (h.1 ∙ append-nil h.0)) h.2
