use Rattle.std.proofs.Common.{◌≤◌, length}
use Rattle.fuse_forms.proofs.places.end_of_fields.Given as goal

abbrev pub invariant-loop-place : goal.invariant-loop-place
invariant-loop-place l = l.end ≤ length l.text
