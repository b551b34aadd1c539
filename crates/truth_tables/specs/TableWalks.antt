-- What a walk over a truth table leaves (ABEL-HDL Reference Manual, truth tables).
use Rattle.std.specs.Prelude.{List, map}
use Rattle.truth_tables.specs.Prelude.{Place, arena, Formula, Names, Table, view, view_row, Context, formulas, table_gives, term_of, Guard, view_guard, Manner, Walked, context_for, AreFirsts, CountedUnit, StillStands, Walks}
use Rattle.pld_device.specs.Table as device
use Rattle.abel_meaning.specs.Contributions as meant
use Rattle.truth_tables.specs.OutputHeaders.{output_header}
use Rattle.truth_tables.specs.TableUnits.{assigned_by, table_places, units_of_table}

-- the units of a table after what was assigned before
abbrev pub units_of : Context → (before : List Manner) → Table → List CountedUnit
units_of d before t = units_of_table d before t.place (view t.inputs) t.clocked (view t.outputs) (map view_row t.rows)

-- what a table gives under a guard over these formulas
abbrev pub given_by : Context → Guard → Table → List Formula → List (meant.Contribution Formula)
given_by d g t fs =
    table_gives (formulas d) d (view_guard fs g) t.clocked (term_of d.known (view t.inputs)) (term_of d.known (view t.outputs))
    (map view_row t.rows)

-- at which places
abbrev pub places_by : Context → Table → List Place
places_by d t = table_places d (view t.outputs) (map view_row t.rows)

-- a table after what was walked before
abbrev pub WalksTable : device.Table → Names → Guard → Table → (old new : Walked) → Type 0
WalksTable v n g t old new =
    (all : List Manner) → AreFirsts old.before all
    → Walks all (units_of (context_for v n) all t) (given_by (context_for v n) g t (arena old.exprs)) (places_by (context_for v n) t)
    (assigned_by t.clocked (output_header (context_for v n) (view t.outputs))) old new

-- what is after a table, whatever the answer
abbrev pub StandsTable : device.Table → Names → Guard → Table → (old new : Walked) → Type 0
StandsTable v n g t old new =
    StillStands (given_by (context_for v n) g t (arena old.exprs)) (places_by (context_for v n) t) old new
