-- The digits read so far, with those that follow, are all of them.
use Rattle.std.proofs.Common.{◌≡◌, ◌<◌, ◌^◌, drop}
use Rattle.abel_lexer.proofs.Common.{list_all, is_digit, digits_value, digits_value_after}
use Rattle.abel_lexer.proofs.number.digits_value.Given as goal

abbrev pub invariant-loop-byte : goal.invariant-loop-byte
invariant-loop-byte l = (digits_value_after l.fn.radix l.value (drop l.byte-index l.bytes) ≡ digits_value l.fn.radix l.bytes)
    × (list_all (λ d. is_digit d l.fn.radix) (drop l.byte-index l.bytes) ≡ list_all (λ d. is_digit d l.fn.radix) l.bytes) × (l.value < 2 ^ 32)
