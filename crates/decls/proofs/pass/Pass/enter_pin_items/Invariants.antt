-- The items so far, of which none was left out, and what is left of the numbers.
use Rattle.std.proofs.Common.{◌≡◌, ◌-◌, ℕ, List, false, fold, take, drop, length}
use Rattle.decls.proofs.Common.{given_names, Follows, HasNumbers, Way, view_said, Progress, pin_step, with_numbers}
use Rattle.decls.proofs.pass.Pass.enter_pin_items.Given as goal

abbrev pub invariant-loop-place : goal.invariant-loop-place
invariant-loop-place l = record {
  whole : l.self.skipped ≡ l.fn.self.skipped;
  left : l.left ≡ l.numbers.room - length (given_names (take l.place l.names));
  rest : l.rest ≡ drop (length (given_names (take l.place l.names))) l.numbers.list.items;
  follows : (w : Way) (s : Progress) (ns : List ℕ) → HasNumbers w.skips l.numbers.room l.numbers.list.items ns → l.fn.self.skipped ≡ false → Follows w l.fn.self s
      → Follows w l.self (fold (pin_step w.table (view_said l.said)) s (with_numbers (given_names (take l.place l.names)) ns));
}
