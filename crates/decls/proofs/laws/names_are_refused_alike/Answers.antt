-- Devices that take names alike refuse the same.
use Rattle.decls.proofs.TakenAlike.{refused_alike}
use Rattle.decls.proofs.laws.names_are_refused_alike.Goals as goal

pub returns : goal.returns
returns c = λ t u m alike. refused_alike t u alike m
