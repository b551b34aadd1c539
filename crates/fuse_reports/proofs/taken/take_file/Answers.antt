-- The refusal that reading has first is reported; lack of memory is answered as such.
use Rattle.std.proofs.Common.{◌≡◌, ◌≢◌, Err, refl, sym}
use Rattle.fuse_reports.proofs.Common.{true≢false, JedecFault, FuseFile, Read, Refuses, Unread}
use Rattle.jedec_file.specs.declared.jedec_fault.JedecFault.TheVariants as fault
use Rattle.fuse_reports.proofs.taken.take_file.Goals as goal

refused : (e : JedecFault) (read : Read FuseFile) → Refuses e read → e ≢ fault.OutOfMemory → read ≡ Err e
refused fault.NoStart read is some = is
refused fault.NoEnd read is some = is
refused (fault.FileSum sum found) read is some = is
refused (fault.BadField at) read is some = is
refused (fault.UnsupportedField at) read is some = is
refused fault.WrongSize read is some = is
refused (fault.Unlisted fuse) read is some = is
refused (fault.FuseSum sum found) read is some = is
refused fault.OutOfMemory read is some = absurd (some refl)

pub returns-in_ok-fault_line-in-Err : goal.returns-in_ok-fault_line-in-Err
returns-in_ok-fault_line-in-Err g c =
    let some : c.in-Err.fault ≢ fault.OutOfMemory = λ memory. true≢false (sym (c.in_ok-fault_line-in-Err.ensures.memory memory)) in (
      Unread c.in-Err.fault,
      record { within = c.requires; read = refused c.in-Err.fault _ c.in-Err.ensures.refused some; refuses = some },
      c.in_ok-fault_line-in-Err.ensures.line,
    )
