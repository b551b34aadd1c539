use Rattle.std.proofs.Common.{ap, eqb}
use mir.Syntax.{w128}
use Rattle.std.proofs.lemmas.Nat.Bits.{bit_at_set_same, bit_at_set_other, bit_at_clear_same, bit_at_clear_other}
use Rattle.pld_base.proofs.BitLemmas.{bits-set}
use Rattle.pld_base.proofs.levels.with_value.Goals as goal

pub returns-then-on : goal.returns-then-on
returns-then-on c = rw c.if-on.true (bits-set 128 _ _ _ _ c.requires (ap (λ b. eqb b 1) (bit_at_set_same w128 _ _ c.requires)) (λ i below other. bit_at_set_other w128 _ _ c.requires i other))

pub returns-else-on : goal.returns-else-on
returns-else-on c = rw c.if-on.false (bits-set 128 _ _ _ _ c.requires (ap (λ b. eqb b 1) (bit_at_clear_same w128 _ _ c.requires)) (λ i below other. bit_at_clear_other w128 _ _ c.requires i below other))
