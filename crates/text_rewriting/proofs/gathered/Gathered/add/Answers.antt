-- A piece more, no bytes more, and a piece too many.
use Rattle.std.proofs.Common.{◌++◌, ◌<◌, ◌∙◌, ap, subst, arith, length}
use Rattle.text_rewriting.proofs.Common.{joined, Gathering}
use Rattle.text_rewriting.proofs.Gathers.{added, added_nothing, over}
use Rattle.text_rewriting.proofs.gathered.Gathered.add.Goals as goal

pub returns-then-length-eq0-clause-ok : goal.returns-then-length-eq0-clause-ok
returns-then-length-eq0-clause-ok c = added_nothing c.args.self.now c.args.piece (omega arith)

pub returns-then-length-self-clause-long : goal.returns-then-length-self-clause-long
returns-then-length-self-clause-long c =
    λ _. subst (λ (g : Gathering). g.most < length (g.text ++ c.args.piece)) c.self.view_is (over (joined c.self.inside.pieces.items) c.args.piece c.self.inside.room (omega arith))

pub returns-clause-ok : goal.returns-clause-ok
returns-clause-ok c =
    added c.self.inside.pieces.items c.push.new.self.items c.args.piece c.self.inside.room c.len-length.result c.len-length.ensures (omega arith) c.in_ok-push.ensures.items
    ∙ ap (λ (g : Gathering). record { text = g.text ++ c.args.piece; most = g.most }) c.self.view_is
