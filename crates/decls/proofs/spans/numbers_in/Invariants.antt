-- The numbers so far, and the room that is left.
use Rattle.std.proofs.Common.{◌≡◌, ◌-◌, take}
use Rattle.decls.proofs.Common.{count_numbers, numbers_of}
use Rattle.decls.proofs.spans.numbers_in.Given as goal

abbrev pub invariant-loop-span : goal.invariant-loop-span
invariant-loop-span l = record {
  numbers : l.numbers.items ≡ numbers_of l.room (take l.span-index l.spans);
  left : l.left ≡ l.room - count_numbers (take l.span-index l.spans);
}
