use Rattle.std.proofs.Common.{◌≡◌, ◌+◌, ◌≤◌, length, take}
use Rattle.covers.proofs.Common.{HasFound}
use Rattle.covers.proofs.off.off_cubes.Given as goal

abbrev pub invariant-loop : goal.invariant-loop
invariant-loop l = record {
  last : l.fn.allowed.to ≡ length l.initial.pool.cubes;
  kept : take (length l.initial.pool.cubes) l.pool.cubes ≡ l.initial.pool.cubes;
  spare : l.pool.spare + length l.pool.cubes ≡ l.initial.pool.spare + length l.initial.pool.cubes;
  count : l.off.count ≤ l.counter;
  found : HasFound l.fn.vars l.fn.allowed l.off l.pool;
}
