use Rattle.form_laws.proofs.IdleFuses.{signed_behaves}
use Rattle.form_laws.proofs.SpareFuses.{longer_behaves, shorter_behaves}
use Rattle.form_laws.proofs.laws.forms_behave_alike.Goals as goal

pub returns-clause-signed : goal.returns-clause-signed
returns-clause-signed c = signed_behaves

pub returns-clause-longer : goal.returns-clause-longer
returns-clause-longer c = longer_behaves

pub returns-clause-shorter : goal.returns-clause-shorter
returns-clause-shorter c = shorter_behaves
