-- One name more.
use Rattle.std.proofs.Common.{◌||◌, sym, ap, ◌∙◌}
use Rattle.decls.proofs.Common.{list_any, words_named, view_given}
use Rattle.decls.proofs.Folded.{words_more}
use Rattle.decls.proofs.table.NameTable.words_before.Goals as goal

pub loop-given-preserved : goal.loop-given-preserved
loop-given-preserved c = λ t s p sh.
    let l = c.loop-given in
    c.in_ok-add_before.ensures t s p sh
    ∙ (ap (λ b. b || list_any p (words_named s.entries (view_given c.given-item.result).name)) (l.invariant t s p sh)
    ∙ sym (words_more p s.entries view_given c.args.names.now l.given-index c.given-item.result c.loop-given-test.true c.given-item.is))
