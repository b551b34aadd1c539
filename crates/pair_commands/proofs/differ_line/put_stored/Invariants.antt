-- The digits of the pins so far.
use Rattle.std.proofs.Common.{◌≡◌, ◌++◌, map}
use Rattle.pair_commands.proofs.Common.{range_with_len, level_char, bits, q_on}
use Rattle.pair_commands.proofs.differ_line.put_stored.Given as goal

abbrev pub invariant-loop-before : goal.invariant-loop-before
invariant-loop-before g l =
    l.text.items ≡ l.initial.text.items ++ map (λ pin. level_char (q_on g.D.Device.table (bits 32 l.stored) pin)) (range_with_len 1 l.before)
