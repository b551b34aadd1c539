-- The pieces are all that the text is split into.
use Rattle.std.proofs.Common.{subst, ap, ◌∙◌, rules, tests}
use Rattle.decls.proofs.Common.{YieldsList-end, parts_words, Tells, lower_words}
use Rattle.std.proofs.lemmas.Iterator.Splits.{YieldsList-from_slice_split}
use Rattle.decls.proofs.Words.{pieces_are_words}
use Rattle.decls.proofs.strings.words_in.Goals as goal

pub returns : goal.returns
returns c =
    let e = YieldsList-end (YieldsList-from_slice_split _ parts_words c.without_quotes.result.now (search rules) (search rules) (search rules) (λ x b q k. search (rules, tests))) c.loop-piece.yielded _ c.loop-piece.yielded_by _ _ c.in-None.is c.next.ensures.steps in
    subst (Tells c.loop-piece.words) (ap lower_words e.0 ∙ pieces_are_words c.args.text.now c.without_quotes.result.now c.without_quotes.ensures) c.loop-piece.invariant
