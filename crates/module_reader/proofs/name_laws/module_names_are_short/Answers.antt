use Rattle.module_reader.proofs.ShortNames.{name_is_short}
use Rattle.module_reader.proofs.name_laws.module_names_are_short.Goals as goal

pub returns : goal.returns
returns c = name_is_short
