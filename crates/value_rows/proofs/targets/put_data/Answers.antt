use Rattle.std.proofs.Common.{arith}
use Rattle.section_targets.proofs.Looks.{named_one}
use Rattle.value_rows.proofs.targets.put_data.Goals as goal

pub check_aims-requires : goal.check_aims-requires
check_aims-requires c = named_one _ _ (omega (arith, c.are_three.ensures c.if-not-are_three.false))
