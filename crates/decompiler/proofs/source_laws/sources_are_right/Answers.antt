use Rattle.decompiler.proofs.RightSources.{right_sources}
use Rattle.decompiler.proofs.Taken.{designs_takeable}
use Rattle.decompiler.proofs.source_laws.sources_are_right.Goals as goal

pub returns : goal.returns
returns c = right_sources (designs_takeable c.unrefused_is_takeable.ensures)
