-- An ending as the code keeps it.
use Rattle.std.specs.Prelude.{option_map}
use Rattle.fuse_reports.specs.declared.ending.Ending as kept
use Rattle.fuse_reports.specs.declared.ending.Output as put
use Rattle.fuse_reports.specs.declared.ending.Outcome.{Outcome}
use Rattle.fuse_reports.specs.declared.ending.Outcome.TheVariants as outcome
use Rattle.fuse_reports.specs.Ending.{Ending, Output, file_fault}

-- the bytes under a name
abbrev pub output_seen : put.Output → Output
output_seen o = record { name = o.name.now; bytes = o.bytes.items }

-- the ending of a command
abbrev pub ending_seen : kept.Ending → Ending
ending_seen e = record { status = e.status; text = e.text.items; output = option_map output_seen e.output }

-- the ending that an outcome is reported as
abbrev pub view : Outcome → Ending
view (outcome.Ended ending) = ending_seen ending
view (outcome.Unread name) = file_fault name.now
view (outcome.Unwritten name) = file_fault name.now
