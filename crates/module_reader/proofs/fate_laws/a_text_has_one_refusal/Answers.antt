use Rattle.module_reader.proofs.Fates.{refusal_once}
use Rattle.module_reader.proofs.fate_laws.a_text_has_one_refusal.Goals as goal

pub returns : goal.returns
returns c = refusal_once
