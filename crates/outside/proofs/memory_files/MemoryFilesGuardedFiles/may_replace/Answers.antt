-- Counting a call changes no file.
use Rattle.std.proofs.Common.{◌≡◌, ◌↔◌, IsTrue, ap, subst}
use Rattle.outside.specs.Memory.{bytes_in}
use Rattle.outside.specs.Outside.{MayReplace}
use Rattle.outside.proofs.memory_files.MemoryFilesGuardedFiles.may_replace.Goals as goal

pub returns-clause-may : goal.returns-clause-may
returns-clause-may c =
    let same : c.fails_now.new.self.files ≡ c.args.self.now.files = ap (λ m. m.files) c.fails_now.ensures.counted in
    subst (λ files. IsTrue c.is_free.result ↔ MayReplace (bytes_in files) c.args.output.now c.args.input.now c.args.front.now) same c.is_free.ensures
