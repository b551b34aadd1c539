-- One name more.
use Rattle.std.proofs.Common.{◌++◌, sym, ap, ap₂, ◌∙◌}
use Rattle.decls.proofs.Common.{find, number_if}
use Rattle.decls.proofs.Numbering.{numbered_more}
use Rattle.decls.proofs.table.NameTable.buffered.Goals as goal

pub loop-given-preserved : goal.loop-given-preserved
loop-given-preserved c = λ t s sh.
    let l = c.loop-given in
    c.in_ok-add_number.ensures
    ∙ (ap₂ (λ xs o. xs ++ number_if c.given-item.result.place o) (l.invariant t s sh) (c.number_of.ensures t s sh ∙ ap (find s.entries) c.as_slice.ensures.value)
    ∙ sym (numbered_more s.entries c.args.names.now l.given-index c.given-item.result c.loop-given-test.true c.given-item.is))
