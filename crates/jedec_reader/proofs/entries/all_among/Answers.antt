use Rattle.std.proofs.Common.{arith, sym, ◌∙◌}
use Rattle.jedec_reader.proofs.Common.{is_among}
use Rattle.jedec_reader.proofs.Ranges.{all_of_range, not_all_of_range}
use Rattle.jedec_reader.proofs.entries.all_among.Goals as goal

pub returns-then-not-is_among : goal.returns-then-not-is_among
returns-then-not-is_among c = sym (not_all_of_range (is_among c.args.order.now) c.args.pins c.loop-before.before c.loop-before-test.true (sym c.is_among.ensures ∙ c.if-not-is_among.true))

pub returns : goal.returns
returns c = sym (all_of_range (is_among c.args.order.now) c.args.pins (λ k low. c.loop-before.invariant k (omega (arith, low, c.loop-before-test.false))))
