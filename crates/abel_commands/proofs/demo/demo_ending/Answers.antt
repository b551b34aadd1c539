-- The demo source of the number is the one that ends so.
use Rattle.std.proofs.Common.{ℕ, List, subst, arith, inr}
use Rattle.abel_commands.proofs.Common.{IfOk-weaker, DemoEndsWithin, ending_seen}
use Rattle.abel_commands.proofs.demo.demo_ending.Goals as goal

pub returns : goal.returns
returns c =
    IfOk-weaker c.source_ending.result _ _
    (λ e ends. (
      c.in_ok-text.text.items,
      c.in_ok-text.ensures,
      inr (omega (arith, c.if-len-gt-LIMIT.false, c.len.ensures), subst (λ (text : List ℕ). DemoEndsWithin c.args.seed text (ending_seen e)) c.deref.ensures.value ends),
    ))
    c.source_ending.ensures
