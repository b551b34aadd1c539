use Rattle.jedec_reader.proofs.Common.{pieces}
use Rattle.jedec_reader.proofs.Fits.{given_fit}
use Rattle.jedec_reader.proofs.field_list.fields.Goals as goal

pub returns-clause-fits : goal.returns-clause-fits
returns-clause-fits g c =
    given_fit g.D.Device.table (λ v. v.items) c.behind_design.result c.in_ok-at.at (pieces c.in_ok-at.text.now) c.behind_design.ensures
