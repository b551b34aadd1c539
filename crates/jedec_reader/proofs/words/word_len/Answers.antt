use Rattle.std.proofs.Common.{sym, ◌∙◌}
use Rattle.jedec_reader.proofs.WordLemmas.{blank_found, no_blank}
use Rattle.jedec_reader.proofs.words.word_len.Goals as goal

pub returns-then-is_blank : goal.returns-then-is_blank
returns-then-is_blank c = blank_found c.args.text.now c.loop-place.place c.loop-place-test.true (sym c.is_blank.ensures ∙ c.if-is_blank.true) c.loop-place.invariant

pub returns : goal.returns
returns c = no_blank c.args.text.now c.loop-place.place c.loop-place-test.false c.loop-place.invariant
