use Rattle.pld_machine.proofs.ExchangedLogics.{exchanged_refines, values_exchanged}
use Rattle.pld_machine.proofs.ExchangedLookups.{lookups_exchanged}
use Rattle.pld_machine.proofs.laws.exchanged_logics.Goals as goal

pub returns-clause-refines : goal.returns-clause-refines
returns-clause-refines c x d s r = exchanged_refines x d s r

pub returns-clause-values : goal.returns-clause-values
returns-clause-values c x m values others same = values_exchanged x m values others same

pub returns-clause-lookups : goal.returns-clause-lookups
returns-clause-lookups c x m = lookups_exchanged x m
