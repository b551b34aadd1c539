use Rattle.std.proofs.Common.{arith, not}
use Rattle.jedec_reader.proofs.Common.{is_blank, nat_tests, prefix_len-le-length}
use Rattle.jedec_reader.proofs.WordLemmas.{no_words, words_cut, word_is_long}
use Rattle.jedec_reader.proofs.words.first_word.Goals as goal

pub returns-then-is_empty-clause-words : goal.returns-then-is_empty-clause-words
returns-then-is_empty-clause-words c = no_words c.args.text.now c.trimmed-text.result.now c.trimmed-text.ensures.text (grind (arith, nat_tests))

pub split_at-requires : goal.split_at-requires
split_at-requires c = omega (arith, c.word_len.ensures, prefix_len-le-length (λ b. not (is_blank b)) c.trimmed-text.result.now)

pub returns-clause-words : goal.returns-clause-words
returns-clause-words c = rw (c.split_at.ensures.front, c.split_at.ensures.back, c.word_len.ensures) (words_cut c.args.text.now c.trimmed-text.result.now c.trimmed-text.ensures.text (λ none. grind (arith, nat_tests)))

pub returns-clause-shorter : goal.returns-clause-shorter
returns-clause-shorter c =
    let long = word_is_long c.args.text.now c.trimmed-text.result.now c.trimmed-text.ensures.text (λ none. grind (arith, nat_tests)) in
    omega (arith, long, c.trimmed-text.ensures.shorter, c.split_at.ensures.back_len, c.word_len.ensures)
