-- What is at the front of a remainder, given by its parts: private to the crate, for the contracts of
-- its own functions.
use Rattle.std.specs.Prelude.{ℕ, List}
use Rattle.pld_base.specs.declared.place.Place.{Place}
use Rattle.abel_lexer.specs.declared.token.Token.{Token}
use Rattle.abel_lexer.specs.declared.fault.ScanFault.{ScanFault}
use Rattle.abel_lexer.specs.Scans.{Remainder, Shown, place_past, IsFront, Faults}

-- a remainder of a place, the radix in force and the bytes
abbrev pub remainder : Place → ℕ → List ℕ → Remainder
remainder p radix ts = record { place = p; radix = radix; text = ts }

-- this token is at the front, and these bytes after it
abbrev pub IsTokenAt : Place → ℕ → List ℕ → Token → List ℕ → Type 0
IsTokenAt p radix ts t behind = IsFront (remainder p radix ts) (Shown t) (remainder (place_past p t.text) radix behind)

-- this fault is at the front
abbrev pub IsFaultAt : Place → ℕ → List ℕ → ScanFault → Type 0
IsFaultAt p radix ts f = Faults (remainder p radix ts) f
