-- What a placed module leaves as it is.
use Rattle.std.proofs.Common.{◌≡◌, ℕ, ◌==◌, Bool, true, false, List, [], ◌∷◌, length, map, refl, sym, ◌∙◌, arith}
use Rattle.placer.proofs.Common.{true≢false, nat_tests, Decl, Section, Stmt, Item, Span, Word, Equations, view_decl, view_section, view_stmt, Pinned, placed_declaration, placed_section, with_equations}
use Rattle.abel_tree.specs.declared.declarations.Decl.TheVariants as decl
use Rattle.abel_tree.specs.declared.sections.Section.TheVariants as section

module _ (pins nodes : Pinned) (dc : List ℕ → Bool) where
  pub other_decl : (d : Decl) → ((names : List Item) (numbers : List Span) (attributes : List Word) → d ≡ decl.Pins names numbers attributes → ⊥)
      → ((names : List Item) (numbers : List Span) (attributes : List Word) → d ≡ decl.Nodes names numbers attributes → ⊥)
      → ((names : List Item) (attributes : List Word) → d ≡ decl.Attributes names attributes → ⊥) → view_decl d ∷ [] ≡ placed_declaration pins nodes dc (view_decl d)
  other_decl (decl.Device name text) no_pins no_nodes no_attributes = refl
  other_decl (decl.Pins names numbers attributes) no_pins no_nodes no_attributes = absurd (no_pins names numbers attributes refl)
  other_decl (decl.Nodes names numbers attributes) no_pins no_nodes no_attributes = absurd (no_nodes names numbers attributes refl)
  other_decl (decl.Attributes names attributes) no_pins no_nodes no_attributes = absurd (no_attributes names attributes refl)
  other_decl (decl.Constants names values) no_pins no_nodes no_attributes = refl
  other_decl (decl.Options words) no_pins no_nodes no_attributes = refl
  other_decl (decl.DontCare directive) no_pins no_nodes no_attributes = refl

  pub other_section : (x : Section) → ((ds : List Decl) → x ≡ section.Declarations ds → ⊥) → view_section x ≡ placed_section pins nodes dc (view_section x)
  other_section (section.Declarations ds) no_declarations = absurd (no_declarations ds refl)
  other_section (section.Equations ss) no_declarations = refl
  other_section (section.Table table) no_declarations = refl
  other_section (section.Diagram diagram) no_declarations = refl
  other_section (section.Vectors vectors) no_declarations = refl
  other_section (section.DontCare directive) no_declarations = refl

-- ---- one more section, if there are equations

pub no_equations : (ss : List Stmt) → (length ss == 0) ≡ true → with_equations (map view_stmt ss) ≡ []
no_equations [] none = refl
no_equations (s ∷ ss) none = let some : (length (s ∷ ss) == 0) ≡ false = grind (arith, nat_tests) in absurd (true≢false (sym none ∙ some))

pub some_equations : (ss : List Stmt) → (length ss == 0) ≡ false → with_equations (map view_stmt ss) ≡ Equations (map view_stmt ss) ∷ []
some_equations [] some = absurd (true≢false some)
some_equations (s ∷ ss) some = refl
