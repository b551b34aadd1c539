use Rattle.std.proofs.Common.{ap}
use Rattle.placer.proofs.Common.{Declarations}
use Rattle.placer.proofs.pins.PlacedPins.placed_list.Goals as goal

pub returns : goal.returns
returns c = λ known. ap Declarations (c.in_ok-placed.ensures known)
