-- The device of a name is that of its bytes.
use Rattle.std.proofs.Common.{ap, ◌∙◌}
use Rattle.abel_commands.proofs.Common.{named_device}
use Rattle.abel_commands.specs.Words.{word_device}
use Rattle.abel_commands.proofs.command.word_device.Goals as goal

pub returns : goal.returns
unfolding word_device
returns c = c.named.ensures ∙ ap named_device c.as_bytes.ensures.value
