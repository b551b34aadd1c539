-- The arguments so far have their bytes.
use Rattle.std.proofs.Common.{◌≡◌, ◌-◌, length, take}
use Rattle.abel_macros.proofs.Common.{names, texts}
use Rattle.abel_macros.proofs.call.are_texts.Given as goal

abbrev pub invariant-arguments : goal.invariant-arguments
invariant-arguments l = texts (take l.same l.fn.arguments) ≡ names (take l.same l.fn.bytes)

abbrev pub decreases-arguments : goal.decreases-arguments
decreases-arguments l = length l.fn.bytes - l.same
