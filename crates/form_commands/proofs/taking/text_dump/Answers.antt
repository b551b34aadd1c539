-- A fuse file is a dump as it is; for other bytes there is the line on why they aren't read.
use Rattle.std.proofs.Common.{◌≢◌, sym}
use Rattle.std.proofs.lemmas.Bool.{true≢false}
use Rattle.form_commands.proofs.Refused.{read_refused}
use Rattle.jedec_file.specs.declared.jedec_fault.JedecFault.TheVariants as fault
use Rattle.form_commands.proofs.taking.text_dump.Goals as goal

pub returns-in-Ok : goal.returns-in-Ok
returns-in-Ok g c = c.in_mode.ensures c.args.mends c.args.bytes.now c.in-Ok.ensures.file

pub unread_dump-requires-clause-unread : goal.unread_dump-requires-clause-unread
unread_dump-requires-clause-unread g c =
    let some : c.in-Err.fault ≢ fault.OutOfMemory = λ memory. true≢false (sym (c.in_ok-line-in-Err.ensures.memory memory)) in (
      c.in-Err.fault,
      record { within = c.requires.within; read = read_refused c.in-Err.fault _ c.in-Err.ensures.refused some; refuses = some },
      c.in_ok-line-in-Err.ensures.line,
    )
