-- A word that isn't one of the first four is a further one.
use Rattle.std.proofs.Common.{rules, ◌≡◌, false, codes}
use Rattle.abel_macros.proofs.Common.{is_word, directive_of}
use Rattle.abel_macros.proofs.directive.Directive.of.Goals as goal

pub returns-else-eq_ignore_ascii_case-4 : goal.returns-else-eq_ignore_ascii_case-4
unfolding directive_of
returns-else-eq_ignore_ascii_case-4 c =
    let a : is_word (codes "@CONST") c.args.word.now ≡ false = search rules in
    let b : is_word (codes "@IF") c.args.word.now ≡ false = search rules in
    let d : is_word (codes "@IFDEF") c.args.word.now ≡ false = search rules in
    let e : is_word (codes "@IFNDEF") c.args.word.now ≡ false = search rules in
    rw (a, b, d, e) c.further_directive.ensures
