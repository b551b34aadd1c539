-- The first word, and those after it.
use Rattle.std.proofs.Common.{◌≡◌, ◌+◌, ◌∷◌, List, ℕ, drop, take, sym, ap, ◌∙◌, subst}
use Rattle.std.proofs.lemmas.List.{drop-drop}
use Rattle.reports.specs.Warnings.{words_in}
use Rattle.reports.proofs.WarnedWords.{word_ended, word_whole}
use Rattle.reports.proofs.idle_words.next_word.Goals as goal

pub returns-in-None-clause-words : goal.returns-in-None-clause-words
returns-in-None-clause-words c = word_whole c.args.text.now c.requires (sym c.in-None.is ∙ c.first_separator.ensures)

pub returns-clause-words : goal.returns-clause-words
returns-clause-words c =
    let text = c.args.text.now in
    let n = c.in-Some.length in
    let behind : c.split_at-2.result.1.now ≡ drop (n + 1) text = c.split_at-2.ensures.back ∙ (ap (λ (xs : List ℕ). drop 1 xs) c.split_at.ensures.back ∙ drop-drop 1 n text) in
    subst (λ (word : List ℕ). words_in text ≡ word ∷ words_in c.split_at-2.result.1.now) (sym c.split_at.ensures.front)
    (subst (λ (rest : List ℕ). words_in text ≡ take n text ∷ words_in rest) (sym behind)
    (word_ended text n c.requires (sym c.in-Some.is ∙ c.first_separator.ensures)))
