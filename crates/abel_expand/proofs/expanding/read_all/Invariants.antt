-- The bytes so far are those that were given, and so many there may be.
use Rattle.std.proofs.Common.{◌≡◌, ◌≤◌, ◌-◌, None, length}
use Rattle.abel_expand.proofs.Common.{bytes_given}
use Rattle.abel_expand.proofs.expanding.read_all.Given as goal

abbrev pub invariant-bytes : goal.invariant-bytes
invariant-bytes l = record { text : l.reader.text ≡ l.fn.reader.text; same : l.bytes.items ≡ bytes_given l.reader; going : l.reader.refused ≡ None; most : length l.bytes.items ≤ 1048576 }

abbrev pub decreases-bytes : goal.decreases-bytes
decreases-bytes l = 1048577 - l.reader.given
