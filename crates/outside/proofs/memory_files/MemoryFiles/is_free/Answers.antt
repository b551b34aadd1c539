-- What is asked of the bytes is asked of the file that the map has.
use Rattle.std.proofs.Common.{◌≢◌, ◌↔◌, IsTrue, IfSome, subst}
use Rattle.outside.specs.Causes.{Begins}
use Rattle.outside.proofs.memory_files.MemoryFiles.is_free.Goals as goal

pub returns-in-Some : goal.returns-in-Some
returns-in-Some c =
    subst (λ found. IsTrue c.may_lose.result ↔ IfSome found (λ bytes. (c.args.output.now ≢ c.args.input.now) × Begins bytes c.args.front.now))
    c.in-Some.ensures
    c.may_lose.ensures
