-- The arguments so far have their bytes.
use Rattle.std.proofs.Common.{◌≡◌, take}
use Rattle.abel_macros.proofs.Common.{names, texts}
use Rattle.abel_macros.proofs.call.arguments_of.Given as goal

abbrev pub invariant-loop-argument : goal.invariant-loop-argument
invariant-loop-argument l = names l.copied.items ≡ texts (take l.argument-index l.arguments)
