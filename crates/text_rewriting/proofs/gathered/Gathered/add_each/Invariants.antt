-- What was gathered and what the arguments that are left give are the whole.
use Rattle.std.proofs.Common.{◌≡◌, ◌++◌, ◌-◌, length, drop}
use Rattle.text_rewriting.proofs.Common.{joined, texts, each_replaced}
use Rattle.text_rewriting.proofs.gathered.Gathered.add_each.Given as goal

abbrev pub invariant-arguments : goal.invariant-arguments
invariant-arguments l =
    record {
      text : l.self.text ++ each_replaced l.fn.parameter.items (texts (drop l.at l.fn.arguments)) (joined l.fn.block) ≡ l.fn.self.text ++ each_replaced l.fn.parameter.items (texts l.fn.arguments) (joined l.fn.block);
      most : l.self.most ≡ l.fn.self.most;
    }

abbrev pub decreases-arguments : goal.decreases-arguments
decreases-arguments l = length l.fn.arguments - l.at
