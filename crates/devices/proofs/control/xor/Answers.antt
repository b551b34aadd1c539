-- The fuse is at its place in a row of numbers.
use Rattle.std.proofs.Common.{◌+◌, ℕ, None, Some, false, sym, ap}
use Rattle.std.proofs.lemmas.List.FromFn.{get_or-map-range_with_len}
use Rattle.devices.specs.Gal16V8Tables.{bit}
use Rattle.devices.proofs.control.xor.Goals as goal

pub returns : goal.returns
returns c =
    sym (get_or-map-range_with_len (λ fuse. Some (bit fuse false)) c.args.control 8 c.args.cell _ None c.requires.cell (ap (λ (n : ℕ). c.args.control + n) (sym c.from.ensures)))
