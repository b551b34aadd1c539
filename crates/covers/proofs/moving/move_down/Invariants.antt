use Rattle.std.proofs.Common.{◌≡◌, ◌+◌, ◌-◌, ◌++◌, length, take, drop}
use Rattle.covers.proofs.moving.move_down.Given as goal

abbrev pub invariant-loop-step : goal.invariant-loop-step
invariant-loop-step l = record {
  count : l.count ≡ length l.initial.pool.cubes - l.fn.from;
  long : length l.pool.cubes ≡ length l.initial.pool.cubes;
  spare : l.pool.spare ≡ l.initial.pool.spare;
  front : take (l.place + l.step) l.pool.cubes ≡ take l.place l.initial.pool.cubes ++ take l.step (drop l.fn.from l.initial.pool.cubes);
  tail : drop (l.fn.from + l.step) l.pool.cubes ≡ drop (l.fn.from + l.step) l.initial.pool.cubes;
}
