-- A shift register of two cells with a pin that may be released and a node: the logic that the tests run.
use Rattle.std.specs.Prelude.{◌+◌, true, false, not, ◌&&◌, ◌==◌, if◌then◌else◌, List, [], ◌∷◌}
use Rattle.pld_machine.specs.Prelude.{is_on}
use Rattle.pld_machine.specs.declared.logic.Slot.{Slot}
use Rattle.pld_machine.specs.declared.logic.Slot.TheVariants.{Cell, Node}
use Rattle.pld_machine.specs.Lookups.{Lookups}

-- a private helper of the tests: the slots in order
abbrev pub shifter_slots : List Slot
shifter_slots = Cell 0 ∷ Cell 1 ∷ Cell 2 ∷ Node 0 ∷ []

-- a private helper of the tests: pin 1 is the clock, pin 3 resets both registers, pin 4 presets the first;
-- pin 12 has the first Q's complement, pin 13 the second Q, and pin 14 the second Q while pin 5 is 1; the
-- node has pin 14's level and is the first one's data; the second takes the first Q while the clock is 0
abbrev pub shifter : Lookups
shifter =
    record {
      cells = 3;
      pin = λ c. 12 + c;
      stores = λ c. not (c == 2);
      clock = 1;
      slots = shifter_slots;
      enable = λ at c. if c == 2 then is_on at.pins 5 else true;
      level = λ at c. if c == 0 then not (is_on at.q 0) else is_on at.q 1;
      node = λ at n. is_on at.pins 14;
      reset = λ at c. is_on at.pins 3;
      preset = λ at c. if c == 0 then is_on at.pins 4 else false;
      next = λ at c. if c == 0 then is_on at.nodes 0 else (is_on at.q 0 && not (is_on at.pins 1));
    }
