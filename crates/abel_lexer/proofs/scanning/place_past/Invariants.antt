-- The place after the bytes read so far leads to the place after all.
use Rattle.std.proofs.Common.{◌≡◌, ◌≤◌, ◌+◌, drop}
use Rattle.abel_lexer.proofs.Common.{place_past}
use Rattle.abel_lexer.proofs.scanning.place_past.Given as goal

abbrev pub invariant-loop-byte : goal.invariant-loop-byte
invariant-loop-byte l = (place_past l.place (drop l.byte-index l.bytes) ≡ place_past l.fn.from l.bytes)
    × (l.place.line ≤ l.fn.from.line + l.byte-index) × (l.place.column ≤ l.fn.from.column + l.byte-index) × (1 ≤ l.place.column)
