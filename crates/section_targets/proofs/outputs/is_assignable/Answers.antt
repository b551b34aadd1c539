use Rattle.std.proofs.Common.{sym, ap, ◌==◌, ◌∙◌}
use Rattle.section_targets.proofs.Common.{is_some, view_meaning, is_output_kind}
use Rattle.pld_device.specs.declared.cell.Cell.{Cell}
use Rattle.section_targets.proofs.Looks.{placed_any}
use Rattle.section_targets.proofs.outputs.is_assignable.Goals as goal

pub returns-in-Pin : goal.returns-in-Pin
returns-in-Pin g c =
    c.is_some.ensures ∙ ap is_some c.cell_on.ensures.cell
    ∙ placed_any (λ (cell : Cell). cell.pin == c.in-Pin.pin) g.D.Device.table.cells
    ∙ ap (λ m. is_output_kind g.D.Device.table (view_meaning m)) (sym c.in-Pin.is)
