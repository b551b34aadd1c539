-- What truth tables contribute (ABEL-HDL Reference Manual, truth tables).
use Rattle.std.specs.Prelude.{ℕ, Bool, true, false, Option, None, Some, List, [], ◌∷◌, ◌++◌, reverse}
use Rattle.abel_meaning.specs.Prelude.{RowTree}
use Rattle.abel_meaning.specs.Terms.{Term, term_of}
use Rattle.abel_meaning.specs.Targets.{targets_of}
use Rattle.abel_meaning.specs.Designs.{Context}
use Rattle.abel_meaning.specs.Numbers.{width_of}
use Rattle.abel_meaning.specs.Values.{constant_of}
use Rattle.abel_meaning.specs.Contributions.{Evaluator, Contribution, Guard, contribution}
use Rattle.abel_meaning.specs.Contributions as give
use Rattle.abel_meaning.specs.Rows.{entry_levels}

-- a bit is 1, or 0
abbrev pub literal : {W : Type 0} → Evaluator W → Bool → W → W
literal ev true w = w
literal ev false w = ev.not w

-- all positions agree with the row, from the left, given what was found before; X matches both levels, and a position
-- of the header that is X is dropped
abbrev pub agrees : {W : Type 0} → Evaluator W → W → (unknown : List Bool) → List W → List (Option Bool) → W
agrees ev found [] ws ls = found
agrees ev found (x ∷ xs) [] ls = found
agrees ev found (x ∷ xs) (w ∷ ws) [] = found
agrees ev found (true ∷ xs) (w ∷ ws) (l ∷ ls) = agrees ev found xs ws ls
agrees ev found (false ∷ xs) (w ∷ ws) (None ∷ ls) = agrees ev found xs ws ls
agrees ev found (false ∷ xs) (w ∷ ws) (Some level ∷ ls) = agrees ev (ev.both found (literal ev level w)) xs ws ls

-- the row matches
abbrev pub row_matches : {W : Type 0} → Evaluator W → Context → (header entry : Term) → W
row_matches ev d h e =
    agrees ev (ev.constant true) (reverse (constant_of d h).unknown)
    (ev.word (width_of (constant_of d h).shape) h) (entry_levels d h e)

-- one for 1, any for X and nothing for 0
abbrev pub level_gives : {W : Type 0} → Context → Guard W → (clocked : Bool) → (signal : ℕ)
    → Option Bool → List (Contribution W)
level_gives d g clocked s (Some true) = contribution d g None false clocked give.One s g.holds ∷ []
level_gives d g clocked s (Some false) = []
level_gives d g clocked s None = contribution d g None false clocked give.Any s g.holds ∷ []

-- a match for a signal
abbrev pub match_of : {W : Type 0} → Context → Guard W → (complement clocked : Bool) → (signal : ℕ)
    → Contribution W
match_of d g complement clocked s = contribution d g None complement clocked give.Match s g.holds

-- what a matching row gives to each output
abbrev pub outputs_given : {W : Type 0} → Context → Guard W → (clocked : Bool) → List (Option ℕ)
    → List (Option Bool) → List (Contribution W)
outputs_given d g clocked [] ls = []
outputs_given d g clocked (s ∷ ss) [] = []
outputs_given d g clocked (None ∷ ss) (l ∷ ls) = outputs_given d g clocked ss ls
outputs_given d g clocked (Some s ∷ ss) (l ∷ ls) =
    level_gives d g clocked s l ++ match_of d g false clocked s ∷ outputs_given d g clocked ss ls

-- what rows give, under the guard of their table
abbrev pub rows_give : {W : Type 0} → Evaluator W → Context → Guard W → (clocked : Bool)
    → (inputs outputs : Term) → List RowTree → List (Contribution W)
rows_give ev d g clocked inputs outputs [] = []
rows_give ev d g clocked inputs outputs (row ∷ rows) =
    outputs_given d (record g { holds = row_matches ev d inputs (term_of d.known row.inputs) })
    clocked (targets_of outputs) (entry_levels d outputs (term_of d.known row.outputs))
    ++ rows_give ev d g clocked inputs outputs rows

-- no match, for each signal: so each signal has some contribution of the block
abbrev pub no_matches : {W : Type 0} → Evaluator W → Context → Guard W → (complement clocked : Bool)
    → List (Option ℕ) → List (Contribution W)
no_matches ev d g complement clocked [] = []
no_matches ev d g complement clocked (None ∷ ss) = no_matches ev d g complement clocked ss
no_matches ev d g complement clocked (Some s ∷ ss) =
    match_of d (record g { holds = ev.constant false }) complement clocked s ∷ no_matches ev d g complement clocked ss

-- what a table with this header gives
abbrev pub table_gives : {W : Type 0} → Evaluator W → Context → Guard W → (clocked : Bool)
    → (inputs outputs : Term) → List RowTree → List (Contribution W)
table_gives ev d g clocked inputs outputs rows =
    no_matches ev d g false clocked (targets_of outputs) ++ rows_give ev d g clocked inputs outputs rows
