use Rattle.page_model.proofs.PhaseOutsides.{drive_the_same}
use Rattle.page_model.proofs.laws.points_drive_the_same.Goals as goal

pub returns : goal.returns
returns c = drive_the_same
