use Rattle.std.proofs.Common.{sym, ◌∙◌, ◌+◌, arith}
use Rattle.std.proofs.lemmas.List.FromFn.{map-range_with_len_more}
use Rattle.abel_tree.specs.Entries.{entries_of}
use Rattle.page_model.specs.Pins.{pin_facts}
use Rattle.page_model.proofs.model.pins_of.Goals as goal

pub loop-place-preserved : goal.loop-place-preserved
loop-place-preserved g c =
    c.in_ok-push.ensures.items
    ∙ (rw (c.loop-place.invariant, c.in_ok-pin_facts.ensures)
    (sym (map-range_with_len_more (pin_facts g.D.Device.table c.args.array.now (entries_of c.args.names.now)) 1 c.loop-place.place (c.loop-place.place + 1) (omega arith))))
