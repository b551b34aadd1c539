-- The names so far.
use Rattle.std.proofs.Common.{◌≡◌, ◌++◌, map, take}
use Rattle.fuse_listing.proofs.Common.{view_declared, given_lines}
use Rattle.fuse_listing.proofs.given.put_given.Given as goal

abbrev pub invariant-loop-place : goal.invariant-loop-place
invariant-loop-place l = l.out.items ≡ l.initial.out.items ++ given_lines (map view_declared (take l.place l.declared)) (map view_declared l.placed)
