use Rattle.std.proofs.Common.{sym, ◌∙◌}
use Rattle.device_logic.proofs.MaskLaws.{apart_at}
use Rattle.device_logic.proofs.row_mask.meets.Goals as goal

pub returns : goal.returns
returns c = λ never p long first second.
    apart_at (record { yes = c.args.yes; no = c.args.no }) (c.ranges.yes.fits, c.ranges.no.fits) p long c.args.cube (sym c.meets.ensures ∙ never) first second
