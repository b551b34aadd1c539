-- One string more.
use Rattle.std.proofs.Common.{sym, ap, ap₂, ◌∙◌}
use Rattle.decls.proofs.Common.{said_by_either, said_words, words_of}
use Rattle.decls.proofs.Sayings.{said_more}
use Rattle.decls.proofs.saying.all_in.Goals as goal

pub loop-string-preserved : goal.loop-string-preserved
loop-string-preserved c =
    c.said_by_both-said.ensures
    ∙ (ap₂ said_by_either c.loop-string.invariant (c.words_in.ensures.said ∙ ap (λ t. said_words (words_of t)) c.bytes.ensures)
    ∙ sym (said_more c.args.strings.now c.loop-string.string-index c.string-item.result c.loop-string-test.true c.string-item.is))
