-- One string more.
use Rattle.std.proofs.Common.{map, subst, sym, ap, ap₂, ◌∙◌}
use Rattle.decls.proofs.Common.{said_by_either, said_words, words_of, Shows, view_said}
use Rattle.decls.proofs.Sayings.{said_more, refused_more}
use Rattle.decls.proofs.table.NameTable.check_strings.Goals as goal

pub loop-string-preserved : goal.loop-string-preserved
loop-string-preserved c = record {
  earlier =
      c.said_by_both-earlier.ensures
      ∙ (ap₂ said_by_either c.loop-string.invariant.earlier (c.words_in-words.ensures.said ∙ ap (λ t. said_words (words_of t)) c.bytes.ensures)
      ∙ sym (said_more c.args.strings.now c.loop-string.string-index c.string-item.result c.loop-string-test.true c.string-item.is));
  shows = λ m s sh.
      subst (Shows m c.check_string.new.self)
      (refused_more s (map view_said c.args.befores.now) c.args.strings.now c.loop-string.string-index c.string-item.result (view_said c.loop-string.earlier) c.loop-string-test.true c.string-item.is c.loop-string.invariant.earlier)
      (c.check_string.ensures m _ (c.loop-string.invariant.shows m s sh));
}
