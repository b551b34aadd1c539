use Rattle.std.proofs.Common.{sym, ◌∙◌}
use Rattle.device_logic.proofs.MaskLaws.{empty_at}
use Rattle.device_logic.proofs.row_mask.asks_both.Goals as goal

pub returns : goal.returns
returns c = λ empty p long. empty_at (record { yes = c.args.yes; no = c.args.no }) (c.ranges.yes.fits, c.ranges.no.fits) p long (sym c.is_empty.ensures ∙ empty)
