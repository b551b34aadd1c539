-- The fuses hold what was planned.
use Rattle.std.proofs.Common.{◌≡◌, ℕ, ◌+◌, ◌<◌, Bool, false, Option, None, List, map, get_or, ap, ◌∙◌, arith}
use Rattle.fit_plans.proofs.Common.{range_with_len, get_or-map-range_with_len, slice_get-get_or, slice_get_past, Cube, IsDevice, Table, no_cell, cell_at, full_cube, fuses_of, planned_row, Plan, planned, IsPlanned}
use Rattle.fit_plans.proofs.PlannedRows.{control_is, fuses_long, holds_planned, row_is}
use Rattle.fit_plans.proofs.OwnedRows.{planned_data}

pub is_planned : (t : Table) → IsDevice t → (p : Plan) (rows : List (Option Cube)) (control fuses : List Bool)
    → rows ≡ map (planned t p) (range_with_len 0 t.rows) → fuses ≡ fuses_of t (λ row. get_or rows row None) (λ n. get_or control n false)
    → IsPlanned t p control fuses
is_planned t laws p rows control fuses rows_are fuses_are =
    let plan : ℕ → Option Cube = λ row. get_or rows row None in
    let given : ℕ → Bool = λ n. get_or control n false in
    let at : (row : ℕ) → row < t.rows → get_or rows row None ≡ planned t p row = λ row within. ap (λ (rs : List (Option Cube)). get_or rs row None) rows_are ∙ get_or-map-range_with_len (planned t p) 0 t.rows row row None within (omega arith) in
    rw fuses_are (record {
      size = fuses_long t laws plan given;
      rows = λ row within. row_is t laws plan given row within ∙ ap (planned_row t) (at row within);
      past = λ n out low. control_is t laws plan given n out low;
      cells = λ c x low there fit.
          let below = (laws.cells c no_cell low).data_below in
          let first = (cell_at t c).first in
          holds_planned t laws plan given first (cell_at t c).room x.rows below fit
          (λ i within. at (first + i) (omega (arith, within, fit, below)) ∙ planned_data t laws p x c i low there (omega (arith, within, fit)) ∙ slice_get-get_or x.rows i full_cube within)
          (λ i past within. at (first + i) (omega (arith, within, below)) ∙ planned_data t laws p x c i low there within ∙ slice_get_past x.rows i past);
    })
