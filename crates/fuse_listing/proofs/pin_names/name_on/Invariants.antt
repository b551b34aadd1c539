use Rattle.std.proofs.Common.{◌≡◌, drop, map}
use Rattle.fuse_listing.proofs.Common.{view_declared, name_on}
use Rattle.fuse_listing.proofs.pin_names.name_on.Given as goal

abbrev pub invariant-loop-declared : goal.invariant-loop-declared
invariant-loop-declared l =
    name_on (map view_declared (drop l.declared-index l.names.list)) l.pin ≡ name_on (map view_declared l.names.list) l.pin
