-- The end is looked for after the bytes read so far.
use Rattle.std.proofs.Common.{◌≡◌, ◌+◌, false, drop}
use Rattle.abel_lexer.proofs.Common.{quote_end}
use Rattle.abel_lexer.proofs.length.quote_end.Given as goal

abbrev pub invariant-loop-byte : goal.invariant-loop-byte
invariant-loop-byte l = (quote_end l.end l.taken (drop l.byte-index l.bytes) ≡ quote_end 1 false l.bytes) × (l.end ≡ l.byte-index + 1)
