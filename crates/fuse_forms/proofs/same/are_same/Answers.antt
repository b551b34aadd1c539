-- Lists that are the same level by level are equal.
use Rattle.std.proofs.Common.{sym, ◌∙◌}
use Rattle.fuse_forms.proofs.SameLists.{same_level, same_lists}
use Rattle.fuse_forms.proofs.same.are_same.Goals as goal

pub returns : goal.returns
returns c is = same_lists _ same_level c.args.one.now c.args.other.now (sym c.eq.ensures ∙ is)
