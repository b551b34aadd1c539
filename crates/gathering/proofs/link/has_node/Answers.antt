use Rattle.std.proofs.Common.{sym}
use Rattle.gathering.proofs.Common.{is_on-bits}
use Rattle.std.proofs.lemmas.Nat.Bits.{shr_and_one}
use Rattle.gathering.proofs.link.has_node.Goals as goal

pub returns : goal.returns
returns c = rw shr_and_one (sym (is_on-bits 128 c.args.nodes c.args.node c.requires))
