use Rattle.abel_commands.proofs.FewVectors.{few_vectors}
use Rattle.abel_commands.proofs.laws.read_files_have_few_vectors.Goals as goal

pub returns : goal.returns
returns c = few_vectors
