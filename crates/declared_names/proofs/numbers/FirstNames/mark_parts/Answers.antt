-- One part more.
use Rattle.std.proofs.Common.{map, ap, ap₂, ◌∙◌}
use Rattle.declared_names.proofs.Common.{all_marked, marked, numbers_read, part_gives, uses_read, view_part, view_use}
use Rattle.declared_names.proofs.ReadsAlike.{flat_next}
use Rattle.declared_names.proofs.numbers.FirstNames.mark_parts.Goals as goal

pub loop-part-preserved : goal.loop-part-preserved
loop-part-preserved c = λ es num.
    let l = c.loop-part in
    let of = numbers_read c.args.self.now.limit es in
    flat_next marked (part_gives c.args.follow of) view_part c.args.marks.now.items l.marks.items c.mark_uses.new.marks.items c.args.parts.now l.part-index c.part-item.result c.loop-part-test.true c.part-item.is
    (l.invariant es num)
    (c.in_ok-mark_uses.ensures es num
    ∙ ap₂ (λ strong us. all_marked l.marks.items (uses_read of strong us)) c.in_ok-strong.ensures.strong (ap (map view_use) c.as_slice.ensures.value ∙ c.in_ok-strong.ensures.uses))
