-- None of the entries before this one has the word.
use Rattle.std.proofs.Common.{◌≡◌, map, drop}
use Rattle.abel_grammar.proofs.Common.{look_up}
use Rattle.std.specs.Str.{str_eq_ignore_ascii_case}
use Rattle.abel_grammar.proofs.terminal.listed.Given as goal

abbrev pub invariant-loop-text : goal.invariant-loop-text
invariant-loop-text l = look_up (str_eq_ignore_ascii_case l.word) (map (λ e. (e.0.now, e.1)) (drop l.text-index l.entries)) ≡ look_up (str_eq_ignore_ascii_case l.word) (map (λ e. (e.0.now, e.1)) l.entries)
