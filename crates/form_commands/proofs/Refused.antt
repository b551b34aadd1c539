-- Bytes that aren't read as a fuse file.
use Rattle.std.proofs.Common.{◌≡◌, ◌≢◌, false, ℕ, Bool, List, Err, refl}
use Rattle.form_commands.specs.Dumps.{IsRefusedDump, IsUnreadFile, IsUnreadable}
use Rattle.form_commands.specs.DumpLines.{Unread}
use Rattle.form_commands.specs.Prelude.{FuseFile, JedecFault, Table, is_binary}
use Rattle.jedec_file.specs.Refusals.{Read, Refuses}
use Rattle.jedec_file.specs.declared.jedec_fault.JedecFault.TheVariants as fault

-- the refusal is that of reading, unless memory ran out
pub read_refused : (e : JedecFault) (read : Read FuseFile) → Refuses e read → e ≢ fault.OutOfMemory → read ≡ Err e
read_refused fault.NoStart read is some = is
read_refused fault.NoEnd read is some = is
read_refused (fault.FileSum sum found) read is some = is
read_refused (fault.BadField at) read is some = is
read_refused (fault.UnsupportedField at) read is some = is
read_refused fault.WrongSize read is some = is
read_refused (fault.Unlisted fuse) read is some = is
read_refused (fault.FuseSum sum found) read is some = is
read_refused fault.OutOfMemory read is some = absurd (some refl)

pub unreadable : (t : Table) (bytes line : List ℕ) → IsUnreadFile t bytes line → IsUnreadable t bytes
unreadable t bytes line unread = (unread.0, unread.1)

-- they are no dump, if nothing else is found
pub no_dump : (t : Table) (mends : Bool) (bytes line : List ℕ) → is_binary bytes ≡ false → IsUnreadFile t bytes line → IsRefusedDump t mends bytes line
no_dump t mends bytes line text unread = (Unread unread.0, (text, unread.1), unread.2)
