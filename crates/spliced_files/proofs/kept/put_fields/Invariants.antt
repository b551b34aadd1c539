use Rattle.std.proofs.Common.{◌≡◌, ◌++◌, length}
use Rattle.spliced_files.specs.Kept.{kept_lines}
use Rattle.spliced_files.specs.Prelude.{pieces}
use Rattle.spliced_files.proofs.kept.put_fields.Given as goal

abbrev pub invariant-loop-length : goal.invariant-loop-length
invariant-loop-length l = l.out.items ++ kept_lines (pieces l.rest) ≡ l.initial.out.items ++ kept_lines (pieces l.fn.text)

abbrev pub decreases-loop-length : goal.decreases-loop-length
decreases-loop-length l = length l.rest
