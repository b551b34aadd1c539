use Rattle.std.proofs.Common.{ℕ, ap, slice_get, ◌∙◌}
use Rattle.devices.specs.Gal16V8Tables.{switches}
use Rattle.devices.proofs.v8_complex.V8ComplexPart.row_switch.Goals as goal

pub returns : goal.returns
returns c = c.switch.ensures ∙ ap (λ (control : ℕ). slice_get (switches control) c.args.row) c.control.ensures.is
