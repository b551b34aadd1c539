-- The items so far, of which none was left out.
use Rattle.std.proofs.Common.{◌≡◌, false, fold, take}
use Rattle.decls.proofs.Common.{given_names, Follows, Way, view_said, Progress, node_step}
use Rattle.decls.proofs.pass.Pass.enter_node_items.Given as goal

abbrev pub invariant-loop-place : goal.invariant-loop-place
invariant-loop-place l = record {
  whole : l.self.skipped ≡ l.fn.self.skipped;
  follows : (w : Way) (s : Progress) → l.fn.self.skipped ≡ false → Follows w l.fn.self s → Follows w l.self (fold (node_step (view_said l.said)) s (given_names (take l.place l.names)));
}
