use Rattle.module_reader.proofs.Fates.{read_or_not}
use Rattle.module_reader.proofs.fate_laws.a_text_is_read_or_refused.Goals as goal

pub returns : goal.returns
returns c = read_or_not
