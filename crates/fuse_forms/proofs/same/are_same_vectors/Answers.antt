-- Lists that are the same vector by vector are equal.
use Rattle.std.proofs.Common.{sym, ◌∙◌}
use Rattle.fuse_forms.proofs.SameLists.{same_lists, same_vector}
use Rattle.fuse_forms.proofs.same.are_same_vectors.Goals as goal

pub returns : goal.returns
returns c is = same_lists _ same_vector c.args.one.now c.args.other.now (sym c.eq.ensures ∙ is)
