use Rattle.std.proofs.Common.{ap}
use Rattle.source_machine.proofs.Common.{bits, Levels}
use Rattle.source_machine.proofs.NamedPoints.{bits_exchanged}
use Rattle.source_machine.proofs.choices.as_named_point.Goals as goal

pub returns : goal.returns
returns c =
    ap (λ q. let y : Levels = record { pins = bits 32 c.args.at.now.pins; q = q; nodes = bits 128 c.args.at.now.nodes } in y)
    (bits_exchanged c.args.at.now.q c.args.complemented)
