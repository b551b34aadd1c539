use Rattle.std.proofs.Common.{◌≡◌}
use Rattle.fuse_forms.specs.Binary.{fuses_in}
use Rattle.fuse_forms.proofs.binary_form.binary_fuses.Given as goal

abbrev pub invariant-loop-fuse : goal.invariant-loop-fuse
invariant-loop-fuse l = l.levels.items ≡ fuses_in l.bytes l.listed l.fuse
