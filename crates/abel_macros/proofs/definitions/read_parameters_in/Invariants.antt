-- What was read so far precedes what follows.
use Rattle.std.proofs.Common.{◌≡◌, ◌≤◌}
use Rattle.abel_macros.proofs.Common.{ahead, names}
use Rattle.abel_macros.specs.Forms as forms
use Rattle.abel_macros.proofs.Behind.{behind_all}
use Rattle.abel_macros.proofs.definitions.read_parameters_in.Given as goal

abbrev pub invariant-parameters : goal.invariant-parameters
invariant-parameters l =
    record {
      read : behind_all (names l.parameters.items) (forms.parameters_in l.more (ahead l.at)) ≡ forms.parameters_in l.fn.most (ahead l.fn.at);
      whole : l.at.whole ≡ l.fn.at.whole;
      further : l.fn.at.passed ≤ l.at.passed;
    }

abbrev pub decreases-parameters : goal.decreases-parameters
decreases-parameters l = l.more
