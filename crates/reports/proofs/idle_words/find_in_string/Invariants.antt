-- Each turn passes a word; the words that are reported and those that are left are the string's.
use Rattle.std.proofs.Common.{◌≡◌, ◌++◌, filter_map, length}
use Rattle.reports.specs.Warnings.{idle_in_string, idle_word, words_in}
use Rattle.reports.proofs.idle_words.find_in_string.Given as goal

abbrev pub decreases-words : goal.decreases-words
decreases-words l = length l.rest

abbrev pub invariant-words : goal.invariant-words
invariant-words l = l.found ++ filter_map (idle_word l.string.place) (words_in l.rest) ≡ l.initial.found ++ idle_in_string l.string
