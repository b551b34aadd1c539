-- The source of a task is the first of its list; of two files they are the first and the second.
use Rattle.std.proofs.Common.{ℕ, List, IfOk, subst}
use Rattle.abel_cli.proofs.Common.{file_table, source_at, sources_seen, ending_seen}
use Rattle.abel_commands.specs.CompareCommand.{CompareEnds}
use Rattle.abel_cli.proofs.execute.ending.Goals as goal

pub returns-in-Compile : goal.returns-in-Compile
returns-in-Compile c = rw (c.in-Compile.is, ← c.source_at-source.ensures.source) c.compile_ending.ensures

pub returns-in-List : goal.returns-in-List
returns-in-List c = rw (c.in-List.is, ← c.source_at-source.ensures.source) c.list_ending.ensures

pub returns-in-Compare : goal.returns-in-Compare
returns-in-Compare c =
    rw c.in-Compare.is
    (subst
    (λ (b : List ℕ). IfOk c.compare_ending.result
    (λ e. CompareEnds (file_table c.in-Compare.device (source_at (sources_seen c.args.sources.now) 0)) (source_at (sources_seen c.args.sources.now) 0) b (ending_seen e)))
    c.source_at.ensures.source
    (subst
    (λ (a : List ℕ). IfOk c.compare_ending.result
    (λ e. CompareEnds (file_table c.in-Compare.device a) a c.source_at.result.now (ending_seen e)))
    c.source_at-source.ensures.source c.compare_ending.ensures))
