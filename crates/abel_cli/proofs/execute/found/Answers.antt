-- A source over the limit is one if the files show it.
use Rattle.std.proofs.Common.{◌∙◌, string_bytes}
use Rattle.abel_cli.proofs.Common.{length-map, command_seen, ending_seen}
use Rattle.abel_cli.proofs.Called.{ends_long}
use Rattle.abel_cli.proofs.execute.found.Goals as goal

pub returns-in_ok-long_ending-in-Err-TooLong-clause-found : goal.returns-in_ok-long_ending-in-Err-TooLong-clause-found
returns-in_ok-long_ending-in-Err-TooLong-clause-found g c =
    let why = rw c.in-Err-TooLong.field-0-is at c.in-Err-TooLong.ensures.unread in (
      ends_long g.F.Files.Tells (g.F.Files.file c.args.files.now) (command_seen c.args.command) (ending_seen c.in_ok-long_ending-in-Err-TooLong.field-0)
          (length-map c.args.command.inputs.now string_bytes ∙ c.requires)
          why.0
          c.in_ok-long_ending-in-Err-TooLong.ensures,
      why.1,
    )
