use Rattle.module_reader.proofs.Fates.{one_module}
use Rattle.module_reader.proofs.fate_laws.a_text_spells_one_module.Goals as goal

pub returns : goal.returns
returns c = one_module
