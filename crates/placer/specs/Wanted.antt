-- What the code keeps of signals and of free pins, and the pins that a signal may have among some.
use Rattle.std.specs.Prelude.{◌≡◌, ℕ, nat_lt, Bool, ◌&&◌, List, [], ◌∷◌, ◌++◌, if◌then◌else◌, filter, length}
use Rattle.placer.specs.Prelude.{bits, is_on, Table, Entry}
use Rattle.placer.specs.Signals.{is_pin_free, needs_pin, pin_fits}

-- no more than so many signals are kept
abbrev pub with_signal : Table → List ℕ → ℕ → Entry → List ℕ
with_signal t signals s x = if nat_lt (length signals) 32 && needs_pin t x then signals ++ s ∷ [] else signals

-- bit k of the number says whether pin k is free
abbrev pub AreFree : Table → List Entry → (free : ℕ) → Type 0
AreFree t es free = (pin : ℕ) → is_on (bits 32 free) pin ≡ is_pin_free t es pin

-- those of these pins that are free and fit a name
abbrev pub wanted_of : Table → List Entry → (read : Bool) → Entry → List ℕ → List ℕ
wanted_of t es read x pins = filter (λ pin. is_pin_free t es pin && pin_fits t read x pin) pins
