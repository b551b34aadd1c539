-- The endings of a command are called for by its words.
use Rattle.std.proofs.Common.{ℕ, List, Option, Some, Err, ap, subst, sym, ◌∙◌, option_map}
use Rattle.outside.specs.Causes.{Rose}
use Rattle.outside.specs.declared.files.WriteFault.{WriteFault}
use Rattle.fuse_commands.proofs.Called.{ended, rose_later, unwritten}
use Rattle.fuse_commands.proofs.Settled.{settled}
use Rattle.fuse_commands.specs.Prelude.{Puts, asked, ending_seen}
use Rattle.fuse_commands.specs.View.{command_seen}
use Rattle.fuse_reports.specs.View.{output_seen}
use Rattle.fuse_reports.specs.declared.ending.Output as put
use Rattle.fuse_commands.proofs.execute.obey.Goals as goal

pub returns-in_default-output-clause-comes : goal.returns-in_default-output-clause-comes
returns-in_default-output-clause-comes g c words is =
    let found = rw c.in-Ended.is at c.in_ok-other.ensures.found in
    ended (asked words _ _ _ _ _ _ _) (command_seen c.args.command) is (ending_seen c.in-Ended.ending)
    found.0
    found.1
    c.found.ensures.no_write
    (λ tells. subst (λ (out : Option (put.Output)). Puts (option_map output_seen out) (g.F.Files.file c.args.files.now) (g.F.Files.file c.found.new.files)) (sym c.in_default-output.is)
    (c.found.ensures.same tells))

pub returns-in-Ok-clause-comes : goal.returns-in-Ok-clause-comes
returns-in-Ok-clause-comes g c words is =
    let found = rw c.in-Ended.is at c.in_ok-other.ensures.found in
    let still = settled c.in-Ok.ensures.still in
    ended (asked words _ _ _ _ _ _ _) (command_seen c.args.command) is (ending_seen c.in-Ended.ending)
    found.0
    (still.0 ∙ found.1)
    (still.1 ∙ c.found.ensures.no_write)
    (λ tells. subst (λ (out : Option (put.Output)). Puts (option_map output_seen out) (g.F.Files.file c.args.files.now) (g.F.Files.file c.write.new.self)) (sym c.in-Some.is) (
      λ name other. c.in-Ok.ensures.others tells name other ∙ c.found.ensures.same tells name,
      c.in-Ok.ensures.written tells ∙ ap (λ (bytes : List ℕ). Some bytes) c.deref.ensures.value,
    ))

pub returns-in-Err-Failed-clause-comes : goal.returns-in-Err-Failed-clause-comes
returns-in-Err-Failed-clause-comes g c words is =
    let F = g.F.Files in
    let found = rw c.in-Ended.is at c.in_ok-other.ensures.found in
    let failed = ap (λ (fault : WriteFault). Err fault) c.in-Err-Failed.field-0-is in
    let o = c.in-Some.output in
    unwritten (asked words _ _ _ _ _ _ _) (command_seen c.args.command) is (ending_seen c.in-Ended.ending) o.name.now o.bytes.items
    found.0
    (ap (option_map output_seen) c.in-Some.is)
    (rose_later _ _ _ c.found.ensures.later (c.in-Err-Failed.ensures.failed failed))
    (subst (λ (n : ℕ). Rose n (F.write_faults c.write.new.self)) c.found.ensures.no_write (c.in-Err-Failed.ensures.failed_write failed))
    (λ tells name other. c.write.ensures.others tells name other ∙ c.found.ensures.same tells name)
