-- The two devices have the same array in these modes, or in none.
use Rattle.std.proofs.Common.{ap, inl, inr, ◌∙◌}
use Rattle.std.proofs.lemmas.Result.{IfOk-weaker}
use Rattle.pair_commands.specs.CompareCommand.{CompareEnds, PairCompareEnds}
use Rattle.pair_commands.specs.Prelude.{ending_seen, ends, table_at}
use Rattle.pair_commands.proofs.compare_command.compare_ending.Goals as goal

pub returns-in-Some : goal.returns-in-Some
returns-in-Some c =
    let pair = c.in-Some.pair in
    let are = rw c.in-Some.is at c.pair_of.ensures.some in
    IfOk-weaker c.ending_for.result
    (λ e. PairCompareEnds (table_at pair.from) (table_at pair.to) c.args.a.now c.args.b.now (ending_seen e))
    (λ e. CompareEnds c.args.from c.args.to c.args.a.now c.args.b.now (ending_seen e))
    (λ e ended. inl (pair, are, ended)) c.ending_for.ensures

pub returns-in_ok-unported_line-in-None : goal.returns-in_ok-unported_line-in-None
returns-in_ok-unported_line-in-None c = inr (c.pair_of.ensures.none c.in-None.is, c.plain.ensures ∙ ap (ends 3) c.in_ok-unported_line-in-None.ensures)
