-- The digits of the pins so far.
use Rattle.std.proofs.Common.{◌≡◌, ◌++◌, map}
use Rattle.pair_commands.proofs.Common.{range_with_len, level_char, bits, is_on}
use Rattle.pair_commands.proofs.differ_line.put_levels.Given as goal

abbrev pub invariant-loop-before : goal.invariant-loop-before
invariant-loop-before g l =
    l.text.items ≡ l.initial.text.items ++ map (λ pin. level_char (is_on (bits 32 l.outside) pin)) (range_with_len 1 l.before)
