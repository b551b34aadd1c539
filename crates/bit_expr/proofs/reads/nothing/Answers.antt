use Rattle.bit_expr.proofs.Common.{is_on-zero}
use Rattle.bit_expr.proofs.reads.nothing.Goals as goal

pub returns : goal.returns
returns c = record { pins = is_on-zero 32; q = is_on-zero 32; nodes = is_on-zero 128 }
