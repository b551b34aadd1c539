-- What is left by giving signals their bits under a guard (ABEL-HDL Reference Manual, equations).
use Rattle.std.specs.Prelude.{◌≡◌, List, [], ◌∷◌, map, Result}
use Rattle.section_targets.specs.Prelude.{ExprId, Node, arena, formula_at, Names, entries_of, Context, Contribution, SectionFault}
use Rattle.section_targets.specs.declared.aim.Aim.{Aim}
use Rattle.section_targets.specs.declared.giving.Giving.{Giving}
use Rattle.section_targets.specs.Building.{Builds}
use Rattle.section_targets.specs.GivenUnits.{one_given, one_part, each_given, each_part}
use Rattle.section_targets.specs.Given.{places_of}

-- one signal, over every design of these names
abbrev pub GivesOne : Names → Giving → Aim → ExprId → (old new : List Node) → (list more : List Contribution)
    → Result Unit SectionFault → Type 0
GivesOne n g a id old new list more r =
    (d : Context) → d.names ≡ entries_of n
    → Builds (one_part (arena old) g (formula_at (arena old) id) ∷ [])
    (one_given d (arena old) g a (formula_at (arena old) id) ∷ []) (a.place ∷ [])
    (record { exprs = old; list = list }) (record { exprs = new; list = more }) r

-- each signal its bit, from the left
abbrev pub GivesAll : Names → Giving → List Aim → List ExprId → (old new : List Node)
    → (list more : List Contribution) → Result Unit SectionFault → Type 0
GivesAll n g aims ids old new list more r =
    (d : Context) → d.names ≡ entries_of n
    → Builds (each_part (arena old) g (map (formula_at (arena old)) ids))
    (each_given d (arena old) g aims (map (formula_at (arena old)) ids)) (places_of aims)
    (record { exprs = old; list = list }) (record { exprs = new; list = more }) r
