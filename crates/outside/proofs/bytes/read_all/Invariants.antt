-- What was read so far is the front of what there was, and within the limit.
use Rattle.std.proofs.Common.{◌≤◌, length}
use Rattle.std.specs.Io.KnownBytes.{Consumes}
use Rattle.outside.proofs.bytes.read_all.Given as goal

abbrev pub invariant-loop : goal.invariant-loop
invariant-loop g l =
    (length l.bytes.items ≤ l.limit) × Consumes (g.S.Read.remaining l.initial.source) (g.S.Read.remaining l.source) l.bytes.items
