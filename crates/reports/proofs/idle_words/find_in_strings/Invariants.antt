-- The idle words of the strings so far follow what was there.
use Rattle.std.proofs.Common.{◌≡◌, ◌++◌, take}
use Rattle.std.specs.List.{flat_map}
use Rattle.reports.specs.Warnings.{idle_in_string}
use Rattle.reports.proofs.idle_words.find_in_strings.Given as goal

abbrev pub invariant-loop-string : goal.invariant-loop-string
invariant-loop-string l = l.found ≡ l.fn.found ++ flat_map idle_in_string (take l.string-index l.strings)
