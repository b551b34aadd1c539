-- The signals of a decompiled source, and what its literals read (this project's rule).
use Rattle.std.specs.Prelude.{ℕ, suc, ◌==◌, Bool, if◌then◌else◌, unwrap_or, List, [], ◌∷◌}
use Rattle.decompiled.specs.Prelude.{Table, Leaf}
use Rattle.bit_expr.specs.declared.node.Leaf.TheVariants as leaf
use Rattle.pld_device.specs.Pins.{cell_on}
use Rattle.decompiled.specs.declared.literal.PinLiteral.{PinLiteral}
use Rattle.decompiled.specs.Sources.{pins_of}

-- the place of a pin in a list of pins; past it if it isn't there
abbrev pub place_of : List ℕ → (pin : ℕ) → ℕ
place_of [] pin = 0
place_of (p ∷ ps) pin = if p == pin then 0 else suc (place_of ps pin)

-- the number of a pin's name: the pins are declared after the device's name
abbrev pub signal_of : Table → List Bool → (pin : ℕ) → ℕ
signal_of t fuses pin = suc (place_of (pins_of t fuses) pin)

-- what a literal reads: the Q of the cell on its pin, or the pin's level
abbrev pub leaf_of : Table → PinLiteral → Leaf
leaf_of t l = if l.of_q then leaf.Q (unwrap_or (cell_on t l.pin) 0) else leaf.Pin l.pin
