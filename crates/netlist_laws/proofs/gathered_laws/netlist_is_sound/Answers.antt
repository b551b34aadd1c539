use Rattle.netlist_laws.proofs.Sound.{is_sound}
use Rattle.netlist_laws.proofs.gathered_laws.netlist_is_sound.Goals as goal

pub returns : goal.returns
returns c = is_sound
