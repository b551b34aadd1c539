-- Each turn reads an entry and a sign.
use Rattle.std.proofs.Common.{[], ◌∷◌, sym}
use Rattle.section_parsers.proofs.Common.{separated_turn, separated_shorter, among, read_text, read_texts, text_shorter}
use Rattle.abel_grammar.specs.declared.terminal.Terminal.TheVariants as terminal
use Rattle.section_parsers.proofs.items.texts.Goals as goal

pub list-smaller : goal.list-smaller
list-smaller c =
    separated_shorter read_text (among (terminal.Comma ∷ [])) text_shorter c.list.rest.now (c.in_ok-next.next, c.in_ok-next.after.now) c.in-Some.others.now c.in_ok-next.ensures (sym c.in-Some.ensures)

pub list-preserved : goal.list-preserved
unfolding read_texts
list-preserved c =
    rw c.in_ok-push.ensures.items (separated_turn read_text (among (terminal.Comma ∷ [])) text_shorter c.list.list.items c.list.rest.now (c.in_ok-next.next, c.in_ok-next.after.now) c.in-Some.others.now
    (read_texts c.args.tokens.now) c.in_ok-next.ensures (sym c.in-Some.ensures) c.list.invariant)
