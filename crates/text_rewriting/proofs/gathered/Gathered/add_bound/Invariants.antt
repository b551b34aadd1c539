-- What was gathered and what represents the rest are the whole.
use Rattle.std.proofs.Common.{◌≡◌, ◌++◌, length}
use Rattle.text_rewriting.proofs.Common.{joined, replaced, bound}
use Rattle.text_rewriting.proofs.gathered.Gathered.add_bound.Given as goal

abbrev pub invariant-parts : goal.invariant-parts
invariant-parts l =
    record {
      text :
          l.self.text ++ replaced (bound l.fn.arguments.by_name.entries) 0 l.rest ≡ l.fn.self.text ++ replaced (bound l.fn.arguments.by_name.entries) 0 (joined l.fn.block);
      most : l.self.most ≡ l.fn.self.most;
    }

abbrev pub decreases-parts : goal.decreases-parts
decreases-parts l = length l.rest
