-- What is known of the end stays, where bytes are put in front.
use Rattle.text_rewriting.proofs.Common.{joined}
use Rattle.text_rewriting.proofs.Marks.{none_before, more_before}
use Rattle.text_rewriting.proofs.unread.Unread.put_all.Goals as goal

pub invariant_of-self-2 : goal.invariant_of-self-2
invariant_of-self-2 c = (
  more_before c.self.inside.rest c.put_all.new.self c.self.inside.left (joined c.args.pieces.now) c.in_ok-put_all.ensures.ok c.self.invariant.0,
  none_before c.self.inside.rest c.put_all.new.self c.self.inside.left c.self.invariant.1 (joined c.args.pieces.now) c.in_ok-put_all.ensures.ok c.self.invariant.0,
)
