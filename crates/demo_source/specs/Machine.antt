-- The ten drawn equations as a logic: registers 0 to 9 on pins 23 down to 14, always driven with their Q, each of
-- which takes at the edge of pin 1 what its equation says; inputs 0 to 9 on pins 2 to 11.
use Rattle.std.specs.Prelude.{ℕ, ◌+◌, ◌-◌, nat_lt, Bool, true, false, not, if◌then◌else◌, List, [], ◌∷◌, ◌++◌, length, map, replicate, slice_get, Option, Some, None}
use Rattle.std.specs.List.{list_all, list_any, range_with_len}
use Rattle.pld_base.specs.Bits.{is_on, same_level}
use Rattle.pld_base.specs.Points.{Levels}
use Rattle.pld_machine.specs.declared.logic.Slot.{Slot}
use Rattle.pld_machine.specs.declared.logic.Slot.TheVariants.{Cell}
use Rattle.pld_machine.specs.Lookups.{Lookups}
use Rattle.demo_source.specs.declared.literals.Literal.{Literal}
use Rattle.demo_source.specs.declared.equations.Product.{Product}
use Rattle.demo_source.specs.declared.equations.Equation.{Equation}

-- the level of a signal: of an input that of its pin, of a register its Q
abbrev pub signal_level : Levels → ℕ → Bool
signal_level at k =
    if nat_lt k 10 then is_on at.pins (2 + k) else if nat_lt k 20 then is_on at.q (k - 10) else false

-- a literal holds
abbrev pub holds : Levels → Literal → Bool
holds at l = not (same_level l.negated (signal_level at l.signal))

-- each literal holds
abbrev pub product_holds : Levels → Product → Bool
product_holds at p = list_all (holds at) p.literals

-- some product holds
abbrev pub equation_holds : Levels → Equation → Bool
equation_holds at e = list_any (product_holds at) e.products

-- the equation of a register holds; one that has none stays 0
abbrev pub next_of : Levels → Option Equation → Bool
next_of at (Some e) = equation_holds at e
next_of at None = false

-- one slot for each register, in their order
unfoldable pub register_slots : List Slot
register_slots = map Cell (range_with_len 0 10)

-- the logic of these equations
abbrev pub machine : List Equation → Lookups
machine equations =
    record {
      cells = 10;
      pin = λ c. 23 - c;
      stores = λ c. true;
      clock = 1;
      slots = register_slots;
      enable = λ at c. true;
      level = λ at c. is_on at.q c;
      node = λ at n. false;
      reset = λ at c. false;
      preset = λ at c. false;
      next = λ at c. next_of at (slice_get equations c);
    }

-- the outside levels of these inputs with the clock at a level, one for each of 32 places
unfoldable pub outside : Bool → List Bool → List Bool
outside clock inputs = false ∷ clock ∷ inputs ++ replicate (30 - length inputs) false

-- the outside levels of a pulse: the clock is 0, 1 and 0 again
abbrev pub pulse : List Bool → List (List Bool)
pulse inputs = outside false inputs ∷ outside true inputs ∷ outside false inputs ∷ []
