-- The fuse is at its place in a row of numbers, none past its end.
use Rattle.std.proofs.Common.{◌≡◌, ℕ, ◌+◌, ◌<◌, ◌≤◌, None, Some, length, slice_get, sym, ap, ◌∙◌, arith}
use Rattle.std.specs.List.{range_with_len}
use Rattle.std.proofs.lemmas.List.FromFn.{get_or-range_with_len, length-range_with_len}
use Rattle.std.proofs.lemmas.Option.{slice_get-get_or, slice_get_past}
use Rattle.devices.specs.Gal16V8Tables.{first_ptd, switches}
use Rattle.devices.proofs.control.switch.Goals as goal

within : (control row : ℕ) → row < 64 → Some (first_ptd control + row) ≡ slice_get (switches control) row
within control row low =
    sym (slice_get-get_or (switches control) row 0 (omega (arith, low, length-range_with_len (first_ptd control) 64))
    ∙ ap (λ (n : ℕ). Some n) (get_or-range_with_len (first_ptd control) 64 row 0 low))

pub returns-then-row-lt64 : goal.returns-then-row-lt64
returns-then-row-lt64 c = within c.args.control c.args.row c.if-row-lt64.true

pub returns-else-row-lt64 : goal.returns-else-row-lt64
returns-else-row-lt64 c =
    sym (slice_get_past (switches c.args.control) c.args.row (omega (arith, c.if-row-lt64.false, length-range_with_len (first_ptd c.args.control) 64)))
