use Rattle.std.proofs.Common.{◌≡◌, ◌++◌, drop}
use Rattle.fuse_forms.specs.LineEnds.{line_ends_after, with_line_ends}
use Rattle.fuse_forms.proofs.line_ends.with_line_ends.Given as goal

abbrev pub invariant-loop-byte : goal.invariant-loop-byte
invariant-loop-byte l = l.text.items ++ line_ends_after l.previous (drop l.byte-index l.bytes) ≡ with_line_ends l.bytes
