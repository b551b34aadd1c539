use Rattle.std.proofs.Common.{sym}
use Rattle.std.proofs.lemmas.Nat.Bits.{shr_and_one}
use Rattle.pld_base.proofs.BitLemmas.{is_on-bits}
use Rattle.device_rows.proofs.shift_register.value_at.Goals as goal

pub returns : goal.returns
returns c = rw shr_and_one (sym (is_on-bits 128 c.args.values c.args.node c.requires))
