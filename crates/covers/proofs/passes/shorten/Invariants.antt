use Rattle.std.proofs.Common.{◌≡◌, ◌+◌, ◌-◌, ◌*◌, ◌≤◌, length, take}
use Rattle.covers.proofs.Common.{HasRows}
use Rattle.covers.proofs.passes.shorten.Given as goal

abbrev pub invariant-loop : goal.invariant-loop
invariant-loop l = record {
  second : l.second ≡ length l.fn.pool.cubes;
  rows : HasRows l.fn.needed l.fn.allowed l.fn.vars l.second l.pool;
  kept : take l.second l.pool.cubes ≡ l.fn.pool.cubes;
  few : length l.pool.cubes ≤ l.second + (l.second - l.fn.from);
  small : l.second - l.fn.from ≤ 64;
  room : 24 * (l.fn.allowed.range.to - l.fn.allowed.range.from) + 1728 ≤ l.fn.pool.spare;
  spare : l.pool.spare + length l.pool.cubes ≡ l.fn.pool.spare + length l.fn.pool.cubes;
}
