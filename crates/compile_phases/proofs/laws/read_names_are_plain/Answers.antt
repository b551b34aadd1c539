-- What is read is spelled by the tokens of the expanded text.
use Rattle.compile_phases.proofs.laws.read_names_are_plain.Goals as goal

pub returns : goal.returns
returns c = λ text m read. c.module_names_are_plain.ensures read.expanded read.tokens m read.scanned (64, read.so)
