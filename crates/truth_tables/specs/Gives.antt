-- What is left by giving outputs their bits (ABEL-HDL Reference Manual, truth tables).
use Rattle.std.specs.Prelude.{◌≡◌, ℕ, Bool, false, Option, None, List, [], ◌∷◌, map, Result}
use Rattle.truth_tables.specs.Prelude.{option_map, Place, ExprId, Node, arena, formula_at, Formula, Names, entries_of, Context, formulas, no_matches, outputs_given, Contribution, Guard, SectionFault, view_gives, view_guard, Aim, Builds}
use Rattle.abel_meaning.specs.Contributions.{contribution}
use Rattle.abel_meaning.specs.Contributions as meant
use Rattle.set_expr.specs.declared.contributions.Gives.{Gives}
use Rattle.set_expr.specs.declared.contributions.Gives.TheVariants as gives
use Rattle.truth_tables.specs.TableUnits.{some_aims, row_places}
use Rattle.section_targets.specs.Given.{places_of}
use Rattle.truth_tables.specs.declared.giving.Assigning.{Assigning}

-- the signals of positions, none at X
abbrev pub signals_of : List (Option Aim) → List (Option ℕ)
signals_of xs = map (λ (x : Option Aim). option_map (λ (a : Aim). a.signal) x) xs

-- the guard of a row, by the bit of its match
abbrev pub matched_guard : List Formula → Guard → ExprId → meant.Guard Formula
matched_guard fs g id = record { holds = formula_at fs id; dontcare = g.dontcare; block = g.block }

-- what is left by building no nodes, over every design of these names
abbrev pub GivesFreely : Names → (Context → List (meant.Contribution Formula)) → List Place → (old new : List Node)
    → (list more : List Contribution) → Result Unit SectionFault → Type 0
GivesFreely n gs ps old new list more r =
    (d : Context) → d.names ≡ entries_of n
    → Builds [] (gs d) ps (record { exprs = old; list = list }) (record { exprs = new; list = more }) r

-- what an output is given by the bit of a match
abbrev pub given_output : Context → List Formula → Assigning → Gives → Aim → ExprId → meant.Contribution Formula
given_output d fs m what a id =
    contribution d (matched_guard fs m.guard id) None false m.clocked (view_gives what) a.signal (formula_at fs id)

abbrev pub GivesOutput : Names → Assigning → Gives → Aim → ExprId → (old new : List Node)
    → (list more : List Contribution) → Result Unit SectionFault → Type 0
GivesOutput n m what a id old new list more r =
    GivesFreely n (λ d. given_output d (arena old) m what a id ∷ []) (a.place ∷ []) old new list more r

-- and then a match
abbrev pub GivesMatched : Names → Assigning → Gives → Aim → ExprId → (old new : List Node)
    → (list more : List Contribution) → Result Unit SectionFault → Type 0
GivesMatched n m what a id old new list more r =
    GivesFreely n (λ d. given_output d (arena old) m what a id ∷ given_output d (arena old) m gives.Match a id ∷ [])
    (a.place ∷ a.place ∷ []) old new list more r

abbrev pub GivesPositions : Names → Assigning → List (Option Aim) → List (Option Bool) → ExprId → (old new : List Node)
    → (list more : List Contribution) → Result Unit SectionFault → Type 0
GivesPositions n m outputs levels id old new list more r =
    GivesFreely n (λ d. outputs_given d (matched_guard (arena old) m.guard id) m.clocked (signals_of outputs) levels)
    (row_places outputs levels) old new list more r

abbrev pub GivesPosition : Names → Assigning → Option Aim → Option Bool → ExprId → (old new : List Node)
    → (list more : List Contribution) → Result Unit SectionFault → Type 0
GivesPosition n m output level id old new list more r =
    GivesPositions n m (output ∷ []) (level ∷ []) id old new list more r

-- no match for each output
abbrev pub GivesNoMatches : Names → Assigning → List (Option Aim) → (old new : List Node)
    → (list more : List Contribution) → Result Unit SectionFault → Type 0
GivesNoMatches n m outputs old new list more r =
    GivesFreely n (λ d. no_matches (formulas d) d (view_guard (arena old) m.guard) false m.clocked (signals_of outputs))
    (places_of (some_aims outputs)) old new list more r
