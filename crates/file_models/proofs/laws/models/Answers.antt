use Rattle.file_models.proofs.ModelFiles.{file_table_is}
use Rattle.file_models.proofs.laws.models.Goals as goal

pub returns : goal.returns
returns c model bytes file is = file_table_is model bytes file is
