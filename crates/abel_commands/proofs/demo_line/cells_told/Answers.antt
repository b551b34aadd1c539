-- The digits after a known front.
use Rattle.std.proofs.Common.{ℕ, ◌+◌, List, length, ◌∙◌, ap}
use Rattle.abel_commands.proofs.Common.{device_text}
use Rattle.abel_commands.proofs.DemoCells.{cells_behind}
use Rattle.abel_commands.proofs.demo_line.cells_told.Goals as goal

pub returns : goal.returns
returns g c cells fuses low told =
    let name = c.text.ensures ∙ ap device_text c.name.ensures in
    rw (c.first_digits.ensures, c.behind.ensures) (cells_behind g.D.Device.table cells fuses low c.args.summary.now _ told (ap (λ (text : List ℕ). 9 + length text + 7) name))
