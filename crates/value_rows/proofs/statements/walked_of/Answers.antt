-- The constant 1 is in every arena.
use Rattle.std.proofs.Common.{refl}
use Rattle.section_targets.proofs.MetWords.{high_bit}
use Rattle.value_rows.proofs.statements.walked_of.Goals as goal

pub walk_statements-requires : goal.walk_statements-requires
walk_statements-requires c = record { guard = (high_bit c.new-walked.result.exprs (record { 0 = 1 }) refl).0 }
