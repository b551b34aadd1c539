-- The table's entry.
use Rattle.std.proofs.Common.{sym}
use Rattle.text_pieces.proofs.Common.{ClosesAt}
use Rattle.text_pieces.proofs.Tables.{asked}
use Rattle.text_pieces.proofs.text.Text.block_end.Goals as goal

pub returns-else-end-eq0 : goal.returns-else-end-eq0
returns-else-end-eq0 c =
    rw (sym c.self.view_is) (asked (ClosesAt c.self.inside.bytes.items) c.self.inside.block_ends.items c.deref.result.now c.args.place c.entry-end.result c.self.invariant.0 c.deref.ensures.value c.entry-end.ensures c.if-end-eq0.false)
