-- The conditions of CASE and the guards of its arms (ABEL-HDL Reference Manual, state diagrams).
use Rattle.std.specs.Prelude.{◌≡◌, List, [], ◌∷◌, map, Result}
use Rattle.state_diagrams.specs.Prelude.{Place, Table, ExprId, Node, arena, formula_at, Formula, CaseArm, Names, Choices, view, choices_nodes, condition_of, guard_then, Context, SectionFault, BuildsNodes, context_for, CountedUnit, part}
use Rattle.state_diagrams.specs.DiagramUnits.{choices_refused}

-- nothing is refused of conditions
abbrev pub AreClear : Table → Names → Choices → Type 0
AreClear t n cs = choices_refused (context_for t n) cs ≡ []

-- conditions as one unit at this place
abbrev pub case_unit : Context → (guard : Formula) → Place → Choices → CountedUnit
case_unit d g p cs = record { place = p; refusals = choices_refused d cs; nodes = choices_nodes d g cs }

-- what is left by making the guards after conditions of which nothing is refused
abbrev pub BuildsConditions : {R : Type 0} → Context → (guard : Formula) → Place → Choices → (old new : List Node)
    → Result R SectionFault → Type 0
BuildsConditions d g p cs old new r = BuildsNodes (part p (choices_nodes d g cs) ∷ []) old new r

abbrev pub MakesGuards : {R : Type 0} → Table → Names → (guard : ExprId) → Place → Choices → (old new : List Node)
    → Result R SectionFault → Type 0
MakesGuards t n g p cs old new r = BuildsConditions (context_for t n) (formula_at (arena old) g) p cs old new r

-- the guard of each arm
abbrev pub arm_guards : Context → (guard : Formula) → List CaseArm → List Formula
arm_guards d g arms = map (λ (x : CaseArm). (guard_then g (condition_of d (view x.condition))).what) arms
