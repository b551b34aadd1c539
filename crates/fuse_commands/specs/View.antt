-- A command as the code keeps it.
use Rattle.std.specs.Prelude.{ℕ, List, map, option_map, String, string_bytes}
use Rattle.std.specs.declared.alloc.Global.{Global}
use Rattle.fuse_commands.specs.declared.command.Command as code
use Rattle.fuse_commands.specs.declared.command.Task as code_task
use Rattle.fuse_commands.specs.declared.command.Task.TheVariants as task
use Rattle.form_commands.specs.Writing.{wanted_seen}
use Rattle.fuse_commands.specs.Words.{Command, Task, CompareFiles, GradeFile, PortFile, ReadDump, VectorFile, WriteForm}

-- the bytes of each word
abbrev pub texts : List (String Global) → List (List ℕ)
texts words = map string_bytes words

-- what is to be done
abbrev pub task_seen : code_task.Task → Task
task_seen (task.Grade device) = GradeFile device
task_seen (task.Vectors device most output) = VectorFile device most output.now
task_seen (task.Port from to output) = PortFile from to output.now
task_seen (task.Compare from to) = CompareFiles from to
task_seen (task.Read device mends output) = ReadDump device mends output.now
task_seen (task.Write device wanted output) = WriteForm device (wanted_seen wanted) output.now

-- the command that is asked for
abbrev pub command_seen : code.Command → Command
command_seen c = record { task = task_seen c.task; first = c.first.now; second = option_map (λ name. name.now) c.second }
