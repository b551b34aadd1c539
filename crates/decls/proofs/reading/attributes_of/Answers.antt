-- The bits of the words that are said.
use Rattle.std.proofs.Common.{ap, ap₂, ◌∙◌}
use Rattle.decls.proofs.Common.{bit_or}
use Rattle.decls.proofs.Attributed.{words_in, words_said}
use Rattle.decls.proofs.reading.attributes_of.Goals as goal

pub returns : goal.returns
returns c =
    let w = c.args.said in
    let kind = c.union-kind.ensures tt ∙ ap₂ bit_or c.attribute_if.ensures c.attribute_if-2.ensures in
    let polarity = c.union-polarity.ensures tt ∙ ap₂ bit_or c.attribute_if-3.ensures c.attribute_if-4.ensures in
    let both = c.union.ensures tt ∙ ap₂ bit_or kind polarity in
    ap words_in (c.union-2.ensures tt ∙ ap₂ bit_or both c.attribute_if-dontcare.ensures)
    ∙ words_said w.combinational w.registered w.buffer w.invert w.dc
