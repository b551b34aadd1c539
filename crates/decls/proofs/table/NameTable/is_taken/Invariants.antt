-- No pin so far is this one.
use Rattle.std.proofs.Common.{◌≡◌, ◌==◌, false, take}
use Rattle.decls.proofs.Common.{list_any}
use Rattle.decls.proofs.table.NameTable.is_taken.Given as goal

abbrev pub invariant-loop-taken : goal.invariant-loop-taken
invariant-loop-taken l = list_any (λ m. m == l.number) (take l.taken-index l.self.taken.items) ≡ false
