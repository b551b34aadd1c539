-- What was read so far precedes what follows.
use Rattle.std.proofs.Common.{◌≡◌, ◌≤◌}
use Rattle.abel_macros.proofs.Common.{ahead, texts}
use Rattle.abel_macros.specs.Forms as forms
use Rattle.abel_macros.proofs.Behind.{behind_all}
use Rattle.abel_macros.proofs.arguments.read_arguments_in.Given as goal

abbrev pub invariant-arguments : goal.invariant-arguments
invariant-arguments l =
    record {
      read : behind_all (texts l.arguments.items) (forms.arguments_in l.more (ahead l.at)) ≡ forms.arguments_in l.fn.most (ahead l.fn.at);
      whole : l.at.whole ≡ l.fn.at.whole;
      further : l.fn.at.passed ≤ l.at.passed;
    }

abbrev pub decreases-arguments : goal.decreases-arguments
decreases-arguments l = l.more
