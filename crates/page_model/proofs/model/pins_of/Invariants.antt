use Rattle.std.proofs.Common.{◌≡◌, map}
use Rattle.std.specs.List.{range_with_len}
use Rattle.abel_tree.specs.Entries.{entries_of}
use Rattle.page_model.specs.Pins.{pin_facts}
use Rattle.page_model.proofs.model.pins_of.Given as goal

abbrev pub invariant-loop-place : goal.invariant-loop-place
invariant-loop-place g l = l.pins.items ≡ map (pin_facts g.D.Device.table l.array (entries_of l.names)) (range_with_len 1 l.place)
