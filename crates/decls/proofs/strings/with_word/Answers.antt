-- One word more, if none was unknown.
use Rattle.std.proofs.Common.{not, ◌||◌, sym, ap, ◌∙◌}
use Rattle.decls.proofs.Common.{str_to_ascii_lowercase, said_by_either, lower_words, view_said}
use Rattle.decls.proofs.Words.{tells_more}
use Rattle.decls.proofs.strings.with_word.Goals as goal

pub returns-else-words : goal.returns-else-words
returns-else-words c = λ ps h.
    tells_more c.args.words (record { said = c.said_by_both.result; unknown = not c.is_known_word.result }) (lower_words ps) (str_to_ascii_lowercase c.args.word.now)
    (c.said_by_both.ensures ∙ ap (said_by_either (view_said c.args.words.said)) c.word_says.ensures)
    (ap (λ b. b || not c.is_known_word.result) (sym c.if-words.false) ∙ ap (λ k. c.args.words.unknown || not k) c.is_known_word.ensures)
    h
