-- Private: the product of a row, position by position; the rows of a table with what they give, and what making them and
-- walks over them leave (ABEL-HDL Reference Manual, truth tables).
use Rattle.std.specs.Prelude.{◌≡◌, ◌+◌, ℕ, zero, suc, Bool, true, length, Option, None, Some, List, [], ◌∷◌, reverse, Result, false, map}
use Rattle.truth_tables.specs.Prelude.{ExprId, Node, arena, formula_at, Formula, Const, make_literal, row_literals, Context, bits_of, formulas, width_of, Term, constant_of, Contribution, AreIn, IsShaped, bits_at, unknown_at, part, Table, RowTree, view, row_nodes, entry_levels, outputs_given, row_matches, targets_of, term_of, SectionFault, Aim, Builds, Vec, entries_of, view_row, term_nodes, no_matches, refusal_of, context_for, view_guard, Manner, Walked, AreNamed, AreFirsts, Walks, rows_units, rows_give}
use Rattle.bit_expr.specs.Folding.{Made, free}
use Rattle.set_expr.specs.declared.shaped.Shaped.{Shaped}
use Rattle.abel_meaning.specs.Contributions as meant
use Rattle.truth_tables.specs.TableUnits.{row_places, row_refused, row_units, rows_places, some_aims}
use Rattle.section_targets.specs.Given.{places_of}
use Rattle.truth_tables.specs.declared.checked_rows.RowFound.{RowFound}
use Rattle.truth_tables.specs.Gives.{signals_of}
use Rattle.truth_tables.specs.Works.{StandsWork, Work, before, given_freely}
use Rattle.pld_device.specs.Table as device
use Rattle.abel_tree.specs.declared.tables.Row.{Row}
use Rattle.truth_tables.specs.declared.rows.Headed.{Headed}

-- ---- products

-- a position beside its level
abbrev pub position_literal : List Formula → (found : Formula) → Option ExprId → Option Bool → Made Formula
position_literal fs found None l = free found
position_literal fs found (Some id) None = free found
position_literal fs found (Some id) (Some level) = make_literal found level (formula_at fs id)

-- the literals of positions, after what was found
abbrev pub literals : List Formula → (found : Formula) → List (Option ExprId) → List (Option Bool) → Made Formula
literals fs found ps ls = row_literals found (unknown_at ps) (bits_at fs ps) ls

-- the literals of a header's positions
abbrev pub header_literals : Context → (header : Term) → List (Option Bool) → Made Formula
header_literals d h ls =
    row_literals (Const true) (reverse (constant_of d h).unknown)
    ((formulas d).word (width_of (constant_of d h).shape) h) ls

-- positions that represent those of a header
pub record StandForInputs (d : Context) (h : Term) (fs : List Formula) (ps : List (Option ExprId)) : Type 0 where
  pub inside : AreIn (length fs) ps
  pub same : (ls : List (Option Bool)) → header_literals d h ls ≡ literals fs (Const true) ps ls

-- ---- headers

-- the bits of a term in an arena
abbrev pub IsShapedTerm : Context → List Formula → Term → Shaped → Type 0
IsShapedTerm d fs t s = IsShaped fs s (constant_of d t) (bits_of d t).what

-- ---- rows

-- what is left by building a work
abbrev pub Does : {R : Type 0} → Work → (old new : List Node) → (list more : List Contribution) → Result R SectionFault → Type 0
Does w old new list more r =
    Builds w.units w.gives w.places (record { exprs = old; list = list }) (record { exprs = new; list = more }) r

-- a table names these outputs
abbrev pub NamesOutputs : Context → Table → List (Option Aim) → Type 0
NamesOutputs d t xs = targets_of (term_of d.known (view t.outputs)) ≡ signals_of xs

-- a row with the nodes of the input header before its own, and what it gives under the guard of its table
abbrev pub row_work : Context → meant.Guard Formula → Table → List (Option Aim) → (nodes : ℕ) → RowTree → Work
row_work d g t xs n row =
    record {
      units = record {
        place = row.place;
        refusals = row_refused d t.clocked (term_of d.known (view t.inputs)) (term_of d.known (view t.outputs)) row;
        nodes = n + row_nodes d (term_of d.known (view t.inputs)) row;
      } ∷ [];
      gives = outputs_given d
          (record g { holds = row_matches (formulas d) d (term_of d.known (view t.inputs)) (term_of d.known row.inputs) })
          t.clocked (targets_of (term_of d.known (view t.outputs)))
          (entry_levels d (term_of d.known (view t.outputs)) (term_of d.known row.outputs));
      places = row_places xs (entry_levels d (term_of d.known (view t.outputs)) (term_of d.known row.outputs));
    }

-- rows, the first of which has so many nodes of the input header
abbrev pub rows_work : Context → meant.Guard Formula → Table → List (Option Aim) → (nodes : ℕ) → List RowTree → Work
rows_work d g t xs n rows =
    record {
      units = row_units d t.clocked (term_of d.known (view t.inputs)) (term_of d.known (view t.outputs)) rows
          (rows_units d (term_of d.known (view t.inputs)) n rows);
      gives = rows_give (formulas d) d g t.clocked (term_of d.known (view t.inputs)) (term_of d.known (view t.outputs)) rows;
      places = rows_places d xs (term_of d.known (view t.outputs)) rows;
    }

-- how many of these nodes are left to the row at a place: the first one has them
abbrev pub nodes_at : (nodes place : ℕ) → ℕ
nodes_at n zero = n
nodes_at n (suc i) = 0

-- a product with so many nodes before its own
abbrev pub behind : (nodes : ℕ) → Made Formula → Made Formula
behind n m = record { what = m.what; nodes = n + m.nodes }

-- a row of which nothing is refused, if this product holds
abbrev pub found_work : Context → meant.Guard Formula → (clocked : Bool) → Made Formula → List (Option Aim) → RowFound → Work
found_work d g k product xs f =
    record {
      units = part f.place product.nodes ∷ [];
      gives = outputs_given d (record { holds = product.what; dontcare = g.dontcare; block = g.block }) k (signals_of xs) f.outputs;
      places = row_places xs f.outputs;
    }

-- ---- walks

-- the design of a table on a device, and the input header
abbrev pub design_of : {D : Type 0} → device.Table → Headed D → Context
design_of v h = context_for v h.scope.now

abbrev pub inputs_term : {D : Type 0} → device.Table → Headed D → Term
inputs_term v h = term_of (design_of v h).known (view h.table.now.inputs)

abbrev pub inputs_nodes : {D : Type 0} → device.Table → Headed D → ℕ
inputs_nodes v h = term_nodes (design_of v h) (view h.table.now.inputs)

-- neither side of the header is refused, and these are its outputs
pub record IsHeaderAccepted {D : Type 0} (v : device.Table) (h : Headed D) : Type 0 where
  pub inputs : refusal_of h.scope.now (view h.table.now.inputs) ≡ None
  pub outputs : refusal_of h.scope.now (view h.table.now.outputs) ≡ None
  pub signals : AreNamed (length (entries_of h.scope.now)) (some_aims h.outputs.now)
  pub named : NamesOutputs (design_of v h) h.table.now h.outputs.now

-- bits that were made are those of the input header
abbrev pub HasInputs : {D : Type 0} → device.Table → Headed D → Option (Vec (Option ExprId)) → List Node → Type 0
HasInputs v h None ns = Unit {0}
HasInputs v h (Some ps) ns = StandForInputs (design_of v h) (inputs_term v h) (arena ns) ps.items

-- those that weren't are left to make
abbrev pub nodes_left : {D : Type 0} → device.Table → Headed D → Option (Vec (Option ExprId)) → ℕ
nodes_left v h None = inputs_nodes v h
nodes_left v h (Some ps) = 0

-- ---- what is left by making rows

-- with so many nodes of the input header before its own
abbrev pub GivesRow : {D : Type 0} → device.Table → Headed D → (nodes : ℕ) → RowFound → (old new : Walked)
    → Result Unit SectionFault → Type 0
GivesRow v h n f old new r =
    Does
    (found_work (design_of v h) (view_guard (arena old.exprs) h.guard) h.table.now.clocked
    (behind n (header_literals (design_of v h) (inputs_term v h) f.inputs)) h.outputs.now f)
    old.exprs new.exprs old.list.items new.list.items r

-- ---- what is left by walks

-- a work that assigns no more signals
abbrev pub WalksWork : Work → (old new : Walked) → Type 0
WalksWork w old new = (all : List Manner) → AreFirsts old.before all → Walks all w.units w.gives w.places [] old new

-- no match for each output
abbrev pub no_matches_work : {D : Type 0} → device.Table → Headed D → Walked → Work
no_matches_work v h out =
    given_freely
    (no_matches (formulas (design_of v h)) (design_of v h) (view_guard (arena out.exprs) h.guard) false h.table.now.clocked (signals_of h.outputs.now))
    (places_of (some_aims h.outputs.now))

-- a row with so many nodes of the input header before its own
abbrev pub WalksRow : {D : Type 0} → device.Table → Headed D → (nodes : ℕ) → Row → (old new : Walked) → Type 0
WalksRow v h n row old new =
    WalksWork (row_work (design_of v h) (view_guard (arena old.exprs) h.guard) h.table.now h.outputs.now n (view_row row)) old new

-- a table after its header
abbrev pub headed_work : {D : Type 0} → device.Table → Headed D → Walked → Work
headed_work v h out =
    before (no_matches_work v h out)
    (rows_work (design_of v h) (view_guard (arena out.exprs) h.guard) h.table.now h.outputs.now (inputs_nodes v h)
    (map view_row h.table.now.rows))

abbrev pub WalksHeaded : {D : Type 0} → device.Table → Headed D → (old new : Walked) → Type 0
WalksHeaded v h old new = WalksWork (headed_work v h old) old new

-- what is after a row, and after a table after its header, whatever the answer
abbrev pub StandsRow : {D : Type 0} → device.Table → Headed D → Row → (old new : Walked) → Type 0
StandsRow v h row old new =
    StandsWork (row_work (design_of v h) (view_guard (arena old.exprs) h.guard) h.table.now h.outputs.now 0 (view_row row)) old new

abbrev pub StandsHeaded : {D : Type 0} → device.Table → Headed D → (old new : Walked) → Type 0
StandsHeaded v h old new = StandsWork (headed_work v h old) old new
