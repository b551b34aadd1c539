-- What is left of the count.
use Rattle.std.proofs.Common.{◌≡◌, ◌+◌, take}
use Rattle.decls.proofs.Common.{count_numbers}
use Rattle.decls.proofs.spans.is_count.Given as goal

abbrev pub invariant-loop-span : goal.invariant-loop-span
invariant-loop-span l = l.room + count_numbers (take l.span-index l.spans) ≡ l.count
