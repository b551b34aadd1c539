use Rattle.decompiler.proofs.ChipTexts.{chips_ask}
use Rattle.decompiler.proofs.NeverRefused.{texts_are_accepted, texts_are_short, texts_compile}
use Rattle.decompiler.proofs.TextsAsk.{plain_asks}
use Rattle.decompiler.proofs.compile_laws.compiles.Goals as goal

pub returns-clause-short : goal.returns-clause-short
returns-clause-short c = texts_are_short

pub returns-clause-accepted : goal.returns-clause-accepted
returns-clause-accepted c = texts_are_accepted c.sources_are_right.ensures

pub returns-clause-compiles : goal.returns-clause-compiles
returns-clause-compiles c = texts_compile (texts_are_accepted c.sources_are_right.ensures)

pub returns-clause-plain : goal.returns-clause-plain
returns-clause-plain c = plain_asks

pub returns-clause-chips : goal.returns-clause-chips
returns-clause-chips c = chips_ask
