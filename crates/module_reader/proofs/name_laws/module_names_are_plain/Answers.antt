use Rattle.module_reader.proofs.PlainNames.{name_is_plain}
use Rattle.module_reader.proofs.name_laws.module_names_are_plain.Goals as goal

pub returns : goal.returns
returns c = name_is_plain
