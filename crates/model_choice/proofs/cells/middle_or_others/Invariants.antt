-- Those of the pins so far.
use Rattle.std.proofs.Common.{◌≡◌, filter, take}
use Rattle.pld_base.specs.Bits.{same_level}
use Rattle.pld_base.specs.Models.{middle_pins}
use Rattle.pld_order.specs.Members.{has}
use Rattle.model_choice.proofs.cells.middle_or_others.Given as goal

abbrev pub invariant-loop-pin : goal.invariant-loop-pin
invariant-loop-pin l = l.list.items ≡ filter (λ pin. same_level l.is_middle (has (middle_pins l.top) pin)) (take l.pin-index l.pins)
