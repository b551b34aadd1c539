-- The strings so far, with what they say.
use Rattle.std.proofs.Common.{◌≡◌, map, take}
use Rattle.decls.proofs.Common.{Table, no_words, all_said, strings_refused, Progress, refuse_all, Shows, view_said}
use Rattle.decls.proofs.table.NameTable.check_strings.Given as goal

abbrev pub invariant-loop-string : goal.invariant-loop-string
invariant-loop-string l = record {
  earlier : view_said l.earlier ≡ all_said (take l.string-index l.strings);
  shows : (t : Table) (s : Progress) → Shows t l.fn.self s → Shows t l.self (refuse_all (strings_refused (map view_said l.befores) no_words (take l.string-index l.strings)) s);
}
