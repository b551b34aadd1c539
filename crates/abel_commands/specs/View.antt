-- A command, an ending and an outcome as the code keeps them.
use Rattle.std.specs.Prelude.{option_map}
use Rattle.abel_commands.specs.declared.command.Command as code
use Rattle.abel_commands.specs.declared.command.Task as code_task
use Rattle.abel_commands.specs.declared.command.Task.TheVariants as task
use Rattle.abel_commands.specs.declared.ending.Ending as kept
use Rattle.abel_commands.specs.declared.ending.Output as put
use Rattle.abel_commands.specs.declared.ending.Outcome.{Outcome}
use Rattle.abel_commands.specs.declared.ending.Outcome.TheVariants as outcome
use Rattle.abel_commands.specs.Ending.{Ending, Output, usage_ending, file_fault}
use Rattle.abel_commands.specs.Words.{Command, Task, Compile, ListSource, Simulate, Check, Demo, Decompile, Compare}
use Rattle.abel_commands.specs.Sources.{texts}

-- what is to be done
abbrev pub task_seen : code_task.Task → Task
task_seen (task.Compile output) = Compile output.now
task_seen task.List = ListSource
task_seen (task.Simulate device) = Simulate device
task_seen (task.Check device) = Check device
task_seen (task.Demo seed) = Demo seed
task_seen (task.Decompile device) = Decompile device
task_seen (task.Compare device) = Compare device

-- the command that is asked for
abbrev pub command_seen : code.Command → Command
command_seen c = record { task = task_seen c.task; inputs = texts c.inputs.now }

-- the bytes under a name
abbrev pub output_seen : put.Output → Output
output_seen o = record { name = o.name.now; bytes = o.bytes.items }

-- the ending of a command
abbrev pub ending_seen : kept.Ending → Ending
ending_seen e = record { status = e.status; text = e.text.items; output = option_map output_seen e.output }

-- the ending that an outcome is reported as
abbrev pub view : Outcome → Ending
view outcome.Usage = usage_ending
view (outcome.Ended ending) = ending_seen ending
view (outcome.Unread name) = file_fault name.now
view (outcome.Unwritten name) = file_fault name.now
