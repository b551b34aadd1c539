-- The tokens found so far lead to the rest, in the radix that is in force there.
use Rattle.std.proofs.Common.{◌≤◌, ◌+◌, length}
use Rattle.abel_lexer.proofs.Found.{HasFound}
use Rattle.abel_lexer.proofs.scanning.scan.Given as goal

abbrev pub invariant-lexemes : goal.invariant-lexemes
invariant-lexemes l = HasFound l.fn.text l.tokens.items l.place l.radix l.rest × (l.place.line + length l.rest ≤ 1 + length l.fn.text) × (l.place.column + length l.rest ≤ 1 + length l.fn.text)
    × (1 ≤ l.place.column) × (2 ≤ l.radix) × (l.radix ≤ 16)

abbrev pub decreases-lexemes : goal.decreases-lexemes
decreases-lexemes l = length l.rest
