-- The first control of a source, one cell more.
use Rattle.std.proofs.Common.{◌≡◌, ℕ, ◌+◌, ◌<◌, List, [], ◌∷◌, length, get_or, take, Option, None, Some, refl, ap, ◌∙◌}
use Rattle.reports.proofs.Common.{option_to_list, append-nil, take_more, earlier, first_refusal, is_before, sooner, CellWanted, Control, SharedControl, own_control, control_order, own_controls}
use Rattle.std.proofs.lemmas.List.Concat.{flat_map-append}
use Rattle.abel_tree.proofs.FirstRefusals.{first_append}

pub before_by : (c d : Control) → is_before control_order c d ≡ sooner c.place.line c.place.column 0 d.place.line d.place.column 0
unfolding is_before
before_by c d = refl

first_of_one : (o : Option Control) → first_refusal control_order (option_to_list o) ≡ o
first_of_one None = refl
first_of_one (Some c) = refl

abbrev owns : SharedControl → CellWanted → List Control
owns which v = option_to_list (own_control which v)

pub one_cell_more : (which : SharedControl) (cells : List CellWanted) (i : ℕ) (w : CellWanted) → i < length cells
    → first_refusal control_order (own_controls which (take (i + 1) cells))
    ≡ earlier control_order (first_refusal control_order (own_controls which (take i cells))) (own_control which (get_or cells i w))
one_cell_more which cells i w low =
    let x = get_or cells i w in
    ap (λ (ws : List CellWanted). first_refusal control_order (own_controls which ws)) (take_more cells i w low)
    ∙ (ap (first_refusal control_order) (flat_map-append (owns which) (take i cells) (x ∷ []))
    ∙ (first_append control_order (own_controls which (take i cells)) (own_controls which (x ∷ []))
    ∙ ap (earlier control_order (first_refusal control_order (own_controls which (take i cells))))
    (ap (first_refusal control_order) (append-nil (owns which x)) ∙ first_of_one (own_control which x))))
