-- None of the signals so far has the name.
use Rattle.std.proofs.Common.{◌≡◌, drop, map, position}
use Rattle.placer.proofs.Common.{position_from, view_declared}
use Rattle.placer.proofs.Pinned.{is_name}
use Rattle.placer.proofs.pins.place_of.Given as goal

abbrev pub invariant-loop-place : goal.invariant-loop-place
invariant-loop-place l =
    position (is_name (map view_declared l.names) l.name) l.signals
    ≡ position_from (is_name (map view_declared l.names) l.name) l.place (drop l.place l.signals)
