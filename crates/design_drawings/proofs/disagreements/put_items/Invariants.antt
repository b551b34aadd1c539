use Rattle.std.proofs.Common.{◌≡◌, ◌++◌, flat_map, take}
use Rattle.design_drawings.specs.Disagreements.{mismatch_item}
use Rattle.design_drawings.proofs.disagreements.put_items.Given as goal

abbrev pub invariant-loop-seen : goal.invariant-loop-seen
invariant-loop-seen l = l.page ≡ l.initial.page ++ flat_map (mismatch_item l.design.model.now.pins) (take l.seen-index l.list)
