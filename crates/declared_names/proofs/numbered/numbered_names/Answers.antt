use Rattle.declared_names.proofs.Apart.{numbered_sound, numbered_apart}
use Rattle.declared_names.proofs.numbered.numbered_names.Goals as goal

pub returns-clause-sound : goal.returns-clause-sound
returns-clause-sound c = numbered_sound

pub returns-clause-apart : goal.returns-clause-apart
returns-clause-apart c = numbered_apart
