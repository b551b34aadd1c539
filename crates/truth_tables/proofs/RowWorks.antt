-- What rows make and give, and a whole table after its header.
use Rattle.std.proofs.Common.{◌≡◌, ℕ, ◌+◌, ◌≤◌, Bool, true, false, Option, None, Some, List, [], ◌∷◌, ◌++◌, Result, length, reverse, refl, sym, ap, ap₂, ◌∙◌, subst, subst₂, arith, map}
use Rattle.truth_tables.proofs.Common.{Place, ExprId, arena, formula_at, Made, make_and, make_not, Formula, Const, none_refused, RowTree, view, view_row, row_literals, Context, formulas, width_of, entry_levels, agrees, outputs_given, no_matches, targets_of, Term, term_of, constant_of, Contributions, Guard, SectionFault, Keeps, unknown_at, view_guard, section_order, Aim, IsBuilt, Builds, part, CountedUnit, builds_then, left_empty, right_empty, one_unit, row_places, row_nodes, rows_places, header_refused, if_none, outputs_refused, places_of, some_aims, units_behind, IsRow, matched_guard, signals_of, StandForInputs, header_literals, literals, behind, found_work, row_work, rows_work, NamesOutputs, Work, first_refusal, expression_found, Manner, output_header, given_by, places_by, units_of}
use Rattle.abel_tree.specs.declared.tables.Table.{Table}
use Rattle.abel_meaning.specs.Contributions as meant
use Rattle.truth_tables.specs.declared.checked_rows.RowFound.{RowFound}
use Rattle.truth_tables.proofs.ProductLaws.{bits_kept, in_longer}
use Rattle.truth_tables.proofs.WorkLaws.{DoesWork}
use Rattle.abel_meaning.specs.CountedNodes.{term_nodes}
use Rattle.truth_tables.proofs.OutputPositions.{header_signals}

-- ---- products

-- what agrees is the product of the literals
pub agrees_literals : (d : Context) (f : Formula) (xs : List Bool) (ws : List Formula) (ls : List (Option Bool)) → agrees (formulas d) f xs ws ls ≡ (row_literals f xs ws ls).what
agrees_literals d f (true ∷ xs) (w ∷ ws) (l ∷ ls) = agrees_literals d f xs ws ls
agrees_literals d f (false ∷ xs) (w ∷ ws) (None ∷ ls) = agrees_literals d f xs ws ls
agrees_literals d f (false ∷ xs) (w ∷ ws) (Some true ∷ ls) = agrees_literals d (make_and f w).what xs ws ls
agrees_literals d f (false ∷ xs) (w ∷ ws) (Some false ∷ ls) = agrees_literals d (make_and f (make_not w).what).what xs ws ls
agrees_literals d f _ _ _ = refl

-- the positions of a header stay where nodes are kept
pub inputs_kept : (d : Context) (h : Term) (old new : List Formula) (ps : List (Option ExprId)) → Keeps old new → length old ≤ length new → StandForInputs d h old ps → StandForInputs d h new ps
inputs_kept d h old new ps k le s =
    record {
      inside = in_longer (length old) (length new) ps le s.inside;
      same = λ ls. s.same ls ∙ ap (λ fs. row_literals (Const true) (unknown_at ps) fs ls) (sym (bits_kept old new ps k s.inside));
    }

-- ---- rows

abbrev row_of : Context → meant.Guard Formula → Table → List (Option Aim) → (nodes : ℕ) → Place → Formula → List (Option Bool) → List (Option ℕ) → Work
row_of d g t xs n p q os ss =
    record {
      units = part p n ∷ [];
      gives = outputs_given d (record { holds = q; dontcare = g.dontcare; block = g.block }) t.clocked ss os;
      places = row_places xs os;
    }

abbrev product_row : Context → meant.Guard Formula → Table → List (Option Aim) → (nodes : ℕ) → Place → (ins outs : List (Option Bool)) → List (Option ℕ) → Work
product_row d g t xs n p is os ss =
    row_of d g t xs (n + (header_literals d (term_of d.known (view t.inputs)) is).nodes) p (header_literals d (term_of d.known (view t.inputs)) is).what os ss

-- a row of which nothing is refused, by its levels
pub found_row : (d : Context) (g : meant.Guard Formula) (t : Table) (xs : List (Option Aim)) (n : ℕ) (row : RowTree) (f : RowFound) → NamesOutputs d t xs
    → IsRow d t.clocked (term_of d.known (view t.inputs)) (term_of d.known (view t.outputs)) row f → f.fault ≡ None
    → found_work d g t.clocked (behind n (header_literals d (term_of d.known (view t.inputs)) f.inputs)) xs f
    ≡ record (row_work d g t xs n row) { units = part row.place (n + row_nodes d (term_of d.known (view t.inputs)) row) ∷ [] }
found_row d g t xs n row f names r e =
    let h = term_of d.known (view t.inputs) in
    let is = entry_levels d h (term_of d.known row.inputs) in
    let os = entry_levels d (term_of d.known (view t.outputs)) (term_of d.known row.outputs) in
    ap (λ p. product_row d g t xs n p f.inputs f.outputs (signals_of xs)) r.place
    ∙ ap₂ (λ us vs. product_row d g t xs n row.place us vs (signals_of xs)) (r.inputs_given e) (r.outputs_given e)
    ∙ ap (product_row d g t xs n row.place is os) (sym names)
    ∙ ap (λ q. row_of d g t xs (n + (header_literals d h is).nodes) row.place q os (targets_of (term_of d.known (view t.outputs))))
    (sym (agrees_literals d (Const true) (reverse (constant_of d h).unknown) ((formulas d).word (width_of (constant_of d h).shape) h) is))

-- the outputs after the product of a row
pub found_built : (d : Context) (g : Guard) (k : Bool) (made : Made Formula) (id : ExprId) (xs : List (Option Aim)) (f : RowFound) (old mid new : Contributions) (r : Result Unit SectionFault)
    → IsBuilt (part f.place made.nodes ∷ []) [] [] old mid → formula_at (arena mid.exprs) id ≡ made.what
    → Builds [] (outputs_given d (matched_guard (arena mid.exprs) g id) k (signals_of xs) f.outputs) (row_places xs f.outputs) mid new r
    → DoesWork (found_work d (view_guard (arena old.exprs) g) k made xs f) old new r
found_built d g k made id xs f old mid new r b e c =
    let given = λ (w : Formula). outputs_given d (record { holds = w; dontcare = g.dontcare; block = g.block }) k (signals_of xs) f.outputs in
    builds_then (part f.place made.nodes ∷ []) [] [] (given made.what) [] (row_places xs f.outputs) old mid new r b
    (subst (λ w. Builds [] (given w) (row_places xs f.outputs) mid new r) e c)

-- a part of a unit that gives something after a part that gives nothing
later_part : {R : Type 0} (p : Place) (m k : ℕ) (gs : List (meant.Contribution Formula)) (ps : List Place) (old mid new : Contributions) (r : Result R SectionFault) → IsBuilt (part p m ∷ []) [] [] old mid → Builds (part p k ∷ []) gs ps mid new r → Builds (part p (m + k) ∷ []) gs ps old new r
later_part p m k gs ps old mid new r b c =
    subst (λ n. Builds (part p n ∷ []) gs ps old new r) (omega arith)
    (one_unit p (part p m ∷ part p k ∷ []) gs ps old new r (refl, (refl, tt)) (builds_then (part p m ∷ []) (part p k ∷ []) [] gs [] ps old mid new r b c))

-- a row after the bits of the input header, which took so many nodes
pub row_built : (d : Context) (h : Term) (g : Guard) (k : Bool) (n : ℕ) (ps : List (Option ExprId)) (xs : List (Option Aim)) (f : RowFound) (old mid new : Contributions) (r : Result Unit SectionFault)
    → StandForInputs d h (arena mid.exprs) ps → IsBuilt (part f.place n ∷ []) [] [] old mid
    → DoesWork (found_work d (view_guard (arena mid.exprs) g) k (literals (arena mid.exprs) (Const true) ps f.inputs) xs f) mid new r
    → DoesWork (found_work d (view_guard (arena old.exprs) g) k (behind n (header_literals d h f.inputs)) xs f) old new r
row_built d h g k n ps xs f old mid new r s b c =
    subst (λ (made : Made Formula). DoesWork (found_work d (view_guard (arena old.exprs) g) k (behind n made) xs f) old new r) (sym (s.same f.inputs))
    (later_part f.place n (literals (arena mid.exprs) (Const true) ps f.inputs).nodes _ (row_places xs f.outputs) old mid new r b c)

-- ---- all rows

-- a header of which nothing is refused
pub inputs_clear : (d : Context) (before : List Manner) (t : Table) → None ≡ first_refusal section_order (header_refused d before t.clocked (view t.inputs) (view t.outputs)) → (expression_found d.names (view t.inputs)).refusals ≡ []
inputs_clear d before t e =
    left_empty (expression_found d.names (view t.inputs)).refusals (outputs_refused d before t.clocked (output_header d (view t.outputs)))
    (none_refused section_order (header_refused d before t.clocked (view t.inputs) (view t.outputs)) e)

neither : (rs more : List SectionFault) → if_none rs more ≡ [] → rs ≡ []
neither [] more e = refl
neither (r ∷ rs) more e = absurd cc

pub outputs_clear : (d : Context) (before : List Manner) (t : Table) → None ≡ first_refusal section_order (header_refused d before t.clocked (view t.inputs) (view t.outputs)) → (output_header d (view t.outputs)).refusals ≡ []
outputs_clear d before t e =
    let x = output_header d (view t.outputs) in
    neither x.refusals _ (right_empty (expression_found d.names (view t.inputs)).refusals (outputs_refused d before t.clocked x)
    (none_refused section_order (header_refused d before t.clocked (view t.inputs) (view t.outputs)) e))

pub outputs_named : (d : Context) (before : List Manner) (t : Table) (xs : List (Option Aim)) → xs ≡ (output_header d (view t.outputs)).outputs → None ≡ first_refusal section_order (header_refused d before t.clocked (view t.inputs) (view t.outputs)) → NamesOutputs d t xs
outputs_named d before t xs h e =
    header_signals d (view t.outputs) (outputs_clear d before t e) ∙ ap signals_of (sym h)

-- the works of a table are its units, and what it gives
pub table_works : (P : List CountedUnit → List (meant.Contribution Formula) → List Place → Type 0) (d : Context) (all : List Manner) (fs : List Formula) (g : Guard) (t : Table) (xs : List (Option Aim)) → NamesOutputs d t xs → xs ≡ (output_header d (view t.outputs)).outputs
    → None ≡ first_refusal section_order (header_refused d all t.clocked (view t.inputs) (view t.outputs))
    → P (rows_work d (view_guard fs g) t xs (term_nodes d (view t.inputs)) (map view_row t.rows)).units
    (no_matches (formulas d) d (view_guard fs g) false t.clocked (signals_of xs) ++ (rows_work d (view_guard fs g) t xs (term_nodes d (view t.inputs)) (map view_row t.rows)).gives)
    (places_of (some_aims xs) ++ (rows_work d (view_guard fs g) t xs (term_nodes d (view t.inputs)) (map view_row t.rows)).places)
    → P (units_of d all t) (given_by d g t fs) (places_by d t)
table_works P d all fs g t xs names outputs e b =
    let rows = map view_row t.rows in
    let w = rows_work d (view_guard fs g) t xs (term_nodes d (view t.inputs)) rows in
    subst (λ rs. P (units_behind rs t.place w.units) (given_by d g t fs) (places_by d t)) (sym (none_refused section_order (header_refused d all t.clocked (view t.inputs) (view t.outputs)) e))
    (subst₂ (λ (ss : List (Option ℕ)) (ys : List (Option Aim)). P w.units (no_matches (formulas d) d (view_guard fs g) false t.clocked ss ++ w.gives) (places_of (some_aims ys) ++ rows_places d ys (term_of d.known (view t.outputs)) rows)) (sym names) outputs b)
