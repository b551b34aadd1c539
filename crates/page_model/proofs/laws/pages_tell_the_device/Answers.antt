use Rattle.page_model.proofs.Told as told
use Rattle.page_model.proofs.laws.pages_tell_the_device.Goals as goal

pub returns : goal.returns
returns c = told.pages_tell_the_device
