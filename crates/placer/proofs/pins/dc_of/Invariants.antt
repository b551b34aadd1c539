-- None of the names so far is it.
use Rattle.std.proofs.Common.{◌≡◌, drop, map}
use Rattle.placer.proofs.Common.{view_declared, dc_of}
use Rattle.placer.proofs.pins.dc_of.Given as goal

abbrev pub invariant-loop-declared : goal.invariant-loop-declared
invariant-loop-declared l = dc_of (map view_declared l.names) l.name ≡ dc_of (map view_declared (drop l.declared-index l.names)) l.name
