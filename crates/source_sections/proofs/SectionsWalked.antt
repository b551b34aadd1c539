-- A section is walked by its statements, rows or states, and after it those that are left; the same of declarations.
use Rattle.std.proofs.Common.{◌≡◌, ℕ, Bool, true, Option, List, [], ◌∷◌, ◌++◌, refl, sym, subst}
use Rattle.source_sections.proofs.Common.{arena, formula_at, Table, Names, SectionTree, Declaration, DontCareFor, Context, after_declarations, after_section, formulas, context_for, view_guard, Manner, Walked, AreFirsts, Walks, walks_none, walks_then, WalksSection, section_manners, sections_manners, section_places, sections_places, units_of_section, units_of_sections}
use Rattle.abel_meaning.specs.Sections.{next_block, section_gives, sections_give, unguarded}
use Rattle.bit_expr.specs.Formulas.{Formula, Const}
use Rattle.abel_meaning.specs.Contributions as meant
use Rattle.set_expr.specs.declared.contributions.Guard.{Guard}

-- ---- declarations

-- whether the directive is in force after declarations
pub declarations_then : (on : Bool) (d : Declaration) (ds : List Declaration) → after_declarations on (d ∷ ds) ≡ after_declarations (after_declarations on (d ∷ [])) ds
declarations_then on (DontCareFor directive) ds = refl
declarations_then on _ ds = refl

-- ---- one section

-- no condition surrounds a block or statements
guard_open : (d : Context) (fs : List Formula) (g : Guard) (on : Bool) (block : Option ℕ) → formula_at fs g.when ≡ Const true → g.dontcare ≡ on → g.block ≡ block → view_guard fs g ≡ unguarded (formulas d) on block
guard_open d fs g on block w o b = rw (w, o, b) refl

-- what a walk over a section leaves
abbrev pub Within : Context → List Manner → Bool → ℕ → SectionTree → (old new : Walked) → Type 0
Within d all on block s old new = Walks all (units_of_section d all s) (section_gives (formulas d) d on block s) (section_places d s) (section_manners d all s) old new

-- what a walk under its guard leaves is left of a section if that is so under the guard of no condition
pub section_walked : (d : Context) (on : Bool) (block : ℕ) (all : List Manner) (g : Guard) (own : Option ℕ) (s x : SectionTree) (old new : Walked) (Leaves : meant.Guard Formula → Type 0)
    → s ≡ x → formula_at (arena old.exprs) g.when ≡ Const true → g.dontcare ≡ on → g.block ≡ own
    → (Leaves (unguarded (formulas d) on own) → Within d all on block x old new) → Leaves (view_guard (arena old.exprs) g) → Within d all on block s old new
section_walked d on block all g own s x old new Leaves e w o b h k =
    subst (λ y. Within d all on block y old new) (sym e) (h (subst Leaves (guard_open d (arena old.exprs) g on own w o b) k))

-- ---- those that are left

-- what is walked of them from here on completes a walk over all
abbrev pub AreLeft : Table → Names → (on : Bool) → (block : ℕ) → List SectionTree → (here : Walked) → (Walked → Type 0) → Type 0
AreLeft t n on block ss here Done =
    (all : List Manner) × (AreFirsts here.before all
    × ((new : Walked) → Walks all (units_of_sections (context_for t n) all ss) (sections_give (formulas (context_for t n)) (context_for t n) on block ss) (sections_places (context_for t n) ss) (sections_manners (context_for t n) all ss) here new → Done new))

module _ (t : Table) (n : Names) (on : Bool) (block : ℕ) (here : Walked) (Done : Walked → Type 0) where
  pub one_walked : (s : SectionTree) (ss : List SectionTree) (mid : Walked) → WalksSection t n on block s here mid → AreLeft t n on block (s ∷ ss) here Done → AreLeft t n (after_section on s) (next_block block s) ss mid Done
  one_walked s ss mid walks left =
      let d = context_for t n in
      let all = left.0 in
      let ms = section_manners d all s in
      let one = walks all left.1.0 in (
        all ++ ms,
        (
          one.manners,
          λ new more.
              left.1.1 new
              (walks_then all ms (sections_manners d (all ++ ms) ss) (units_of_section d all s) (units_of_sections d (all ++ ms) ss) (section_gives (formulas d) d on block s) (sections_give (formulas d) d (after_section on s) (next_block block s) ss) (section_places d s) (sections_places d ss) here mid new one more),
        ),
      )

  pub all_walked : AreLeft t n on block [] here Done → Done here
  all_walked left = left.1.1 here (walks_none left.0 here left.1.0)
