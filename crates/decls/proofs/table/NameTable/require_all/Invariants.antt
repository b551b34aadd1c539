-- The names so far are known: nothing is refused.
use Rattle.std.proofs.Common.{◌≡◌, drop}
use Rattle.decls.proofs.Common.{Table, Progress, Shows, wanted}
use Rattle.decls.proofs.Required.{known_from}
use Rattle.decls.proofs.table.NameTable.require_all.Given as goal

abbrev pub invariant-loop-name : goal.invariant-loop-name
invariant-loop-name l = record {
  same : l.self ≡ l.fn.self;
  known : (t : Table) (s : Progress) → Shows t l.fn.self s → known_from (wanted l.signal) l.place l.names s ≡ known_from (wanted l.signal) l.place (drop l.name-index l.names) s;
}
