-- The units of a truth table, with what is refused of each and the nodes that it makes (ABEL-HDL Reference Manual, truth
-- tables; units are this project's rule).
use Rattle.std.specs.Prelude.{ℕ, Bool, false, Option, None, Some, List, [], ◌∷◌, ◌++◌, map, if◌then◌else◌}
use Rattle.truth_tables.specs.Prelude.{filter_map, Place, Tree, RowTree, differ, table_units, Context, entry_levels, Term, term_of, SectionFault, BadRow, names_found, expression_found, Aim, Manner, manner_of, aims_refused, CountedUnit}
use Rattle.truth_tables.specs.RowEntries.{holds_pulse, entry_refused}
use Rattle.truth_tables.specs.OutputHeaders.{HeaderFound, output_header}
use Rattle.section_targets.specs.Given.{places_of}

-- the outputs alone
abbrev pub some_aims : List (Option Aim) → List Aim
some_aims xs = filter_map (λ (x : Option Aim). x) xs

-- the second refusals if there aren't any of the first
abbrev pub if_none : List SectionFault → List SectionFault → List SectionFault
if_none [] more = more
if_none (x ∷ xs) more = x ∷ xs

abbrev pub unless_refused : List SectionFault → List Aim → List Aim
unless_refused [] aims = aims
unless_refused (r ∷ rs) aims = []

-- ---- refusals

-- the outputs are assigned by their names, on the clock or not, after what was assigned before
abbrev pub outputs_refused : Context → List Manner → (clocked : Bool) → HeaderFound → List SectionFault
outputs_refused d before clocked h =
    if_none h.refusals (aims_refused d before None false clocked (some_aims h.outputs))

-- how a table assigns its outputs; an output header that is refused assigns nothing
abbrev pub assigned_by : (clocked : Bool) → HeaderFound → List Manner
assigned_by clocked h = map (manner_of None false clocked) (unless_refused h.refusals (some_aims h.outputs))

-- both sides of a header
abbrev pub header_refused : Context → List Manner → (clocked : Bool) → (inputs outputs : Tree) → List SectionFault
header_refused d before clocked inputs outputs =
    (expression_found d.names inputs).refusals ++ outputs_refused d before clocked (output_header d outputs)

-- `.C.` and `.Z.` are in no row of a table
abbrev pub level_refused : Context → (r : SectionFault) → (header : Term) → Tree → List SectionFault
level_refused d r h t = if holds_pulse (names_found d.names) t then r ∷ [] else entry_refused d r h t

-- a row has the arrow of its header
abbrev pub arrow_refused : (r : SectionFault) → (clocked row_clocked : Bool) → List SectionFault
arrow_refused r clocked row_clocked = if differ clocked row_clocked then r ∷ [] else []

abbrev pub row_refused : Context → (clocked : Bool) → (inputs outputs : Term) → RowTree → List SectionFault
row_refused d clocked inputs outputs row =
    arrow_refused (BadRow row.place) clocked row.clocked
    ++ (level_refused d (BadRow row.place) inputs row.inputs ++ level_refused d (BadRow row.place) outputs row.outputs)

-- ---- units

-- rows with the nodes of each
abbrev pub row_units : Context → (clocked : Bool) → (inputs outputs : Term) → List RowTree → List ℕ → List CountedUnit
row_units d clocked inputs outputs [] ns = []
row_units d clocked inputs outputs (row ∷ rows) [] = []
row_units d clocked inputs outputs (row ∷ rows) (n ∷ ns) =
    record { place = row.place; refusals = row_refused d clocked inputs outputs row; nodes = n }
    ∷ row_units d clocked inputs outputs rows ns

-- rows meet no header that is refused
abbrev pub units_behind : List SectionFault → Place → List CountedUnit → List CountedUnit
units_behind [] p us = us
units_behind (r ∷ rs) p us = record { place = p; refusals = r ∷ rs; nodes = 0 } ∷ []

-- the units of a table at this place
abbrev pub units_of_table : Context → List Manner → Place → (inputs : Tree) → (clocked : Bool) → (outputs : Tree)
    → List RowTree → List CountedUnit
units_of_table d before p inputs clocked outputs rows =
    units_behind (header_refused d before clocked inputs outputs) p
    (row_units d clocked (term_of d.known inputs) (term_of d.known outputs) rows (table_units d inputs rows))

-- ---- where what a table gives is: at the outputs of its header

-- one or any, and the match
abbrev pub places_for : Aim → Option Bool → List Place
places_for a None = a.place ∷ a.place ∷ []
places_for a (Some level) = if level then a.place ∷ a.place ∷ [] else a.place ∷ []

abbrev pub row_places : List (Option Aim) → List (Option Bool) → List Place
row_places [] ls = []
row_places (x ∷ xs) [] = []
row_places (None ∷ xs) (l ∷ ls) = row_places xs ls
row_places (Some a ∷ xs) (l ∷ ls) = places_for a l ++ row_places xs ls

abbrev pub rows_places : Context → List (Option Aim) → (outputs : Term) → List RowTree → List Place
rows_places d xs outputs [] = []
rows_places d xs outputs (row ∷ rows) =
    row_places xs (entry_levels d outputs (term_of d.known row.outputs)) ++ rows_places d xs outputs rows

abbrev pub table_places : Context → (outputs : Tree) → List RowTree → List Place
table_places d outputs rows =
    places_of (some_aims (output_header d outputs).outputs)
    ++ rows_places d (output_header d outputs).outputs (term_of d.known outputs) rows
