use Rattle.std.proofs.Common.{◌++◌, ◌∙◌}
use Rattle.set_expr.proofs.Common.{members_refused, members_specials, members_width, members_value, too_wide}
use Rattle.set_expr.proofs.SetMembers.{all_refused, set_shape}
use Rattle.set_expr.proofs.checking.Members.whole.Goals as goal

pub returns : goal.returns
returns c fs s =
    c.settled.ensures (members_refused c.args.place fs ++ too_wide c.args.place (members_width fs)) (members_specials fs) (members_value fs)
    (c.earlier-fault.ensures ∙ all_refused c.args.place c.args.self.fault c.then_some-wide.result c.args.self.width fs s.fault c.then_some-wide.ensures s.width)
    s.special
    (λ e. set_shape c.args.place c.args.self.width fs s.valued s.width e)
