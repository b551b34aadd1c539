use Rattle.netlist_laws.proofs.ExchangedLogic.{exchanged_means_so}
use Rattle.netlist_laws.proofs.ExchangedSound.{exchanged_is_sound}
use Rattle.netlist_laws.proofs.exchange_laws.exchanged_netlists.Goals as goal

pub returns-clause-means : goal.returns-clause-means
returns-clause-means c t net x laws may = exchanged_means_so t net x laws may

pub returns-clause-sound : goal.returns-clause-sound
returns-clause-sound c t net x sound may = exchanged_is_sound t net x sound may
