-- One output, under the guard of its bit.
use Rattle.std.proofs.Common.{refl}
use Rattle.truth_tables.proofs.Common.{high_bit}
use Rattle.truth_tables.proofs.GivenLaws.{output_given}
use Rattle.truth_tables.proofs.giving.give_output.Goals as goal

pub give-requires-clause-bit : goal.give-requires-clause-bit
give-requires-clause-bit c = (high_bit c.args.exprs.now (record { 0 = 1 }) refl).0

pub returns-clause-gives : goal.returns-clause-gives
returns-clause-gives c = output_given c.args.matching.now.scope.now c.args.matching.now.assigning c.args.what c.args.aim c.args.matching.now.bit (record { 0 = 1 }) c.args.exprs.now c.give.new.exprs c.args.list.now.items c.give.new.list.items c.give.result refl c.give.ensures.builds
