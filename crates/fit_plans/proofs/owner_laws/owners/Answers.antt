use Rattle.fit_plans.proofs.OwnedRows as rows
use Rattle.fit_plans.proofs.owner_laws.owners.Goals as goal

pub returns : goal.returns
returns c = rows.have_owners
