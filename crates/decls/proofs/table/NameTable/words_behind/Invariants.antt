-- All so far are after the first refusal.
use Rattle.std.proofs.Common.{◌≡◌, true, take}
use Rattle.decls.proofs.Common.{words_behind}
use Rattle.decls.proofs.table.NameTable.words_behind.Given as goal

abbrev pub invariant-loop-word : goal.invariant-loop-word
invariant-loop-word l = words_behind l.self.fault (take l.word-index l.words) ≡ true
