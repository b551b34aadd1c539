-- The file of a compiled source can be run: its vectors are simulated, and its cells have neither a loop nor a path from the reset.
use Rattle.std.proofs.Common.{◌≡◌, ◌≢◌, ℕ, List, Ok, refl, sym, ◌∙◌}
use Rattle.abel_commands.proofs.Common.{none-some, Compiled, FuseFile, IsCompiled, SimFault, UnsupportedCondition, DeviceLoop, DeviceResetReadsRegister, OutOfMemory, Table, IsSimFault, table_at}
use Rattle.abel_compile.specs.Statement.{fuses_and_vectors}
use Rattle.abel_meaning.specs.Vectors.{source_vectors}
use Rattle.abel_commands.specs.DemoCommand.{CanBeRun}
use Rattle.device_sim.specs.Simulated.{CanBeSimulated}
use Rattle.abel_commands.proofs.VectorChars.{all_supported}

pub not_refused : (t : Table) (file : FuseFile) (fault : SimFault) → CanBeSimulated t file → IsSimFault t file fault → fault ≢ OutOfMemory → ⊥
not_refused t file (UnsupportedCondition vector pin) can found some = none-some (vector, pin) (sym can.supported ∙ found)
not_refused t file (DeviceLoop pins) can (supported, loop) some = can.no_loop loop.0 loop.1.is_loop
not_refused t file (DeviceResetReadsRegister pins) can (supported, none, path) some = can.no_path path.0 path.1
not_refused t file OutOfMemory can found some = some refl

pub can_be_run : (text : List ℕ) (c : Compiled) → IsCompiled text c → CanBeRun (table_at c.device) c.file.items
can_be_run text c is = record {
  within = is.right.within;
  file = fuses_and_vectors (table_at c.device) is.right.fuses (source_vectors (table_at c.device) is.right.placed);
  read = is.right.reads_back;
  can = record { supported = all_supported (table_at c.device) is.right.placed; no_loop = is.fuses.no_loop; no_path = is.fuses.no_path };
}
