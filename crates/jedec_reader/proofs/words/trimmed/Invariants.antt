use Rattle.std.proofs.Common.{◌≡◌, drop}
use Rattle.jedec_reader.proofs.Common.{trimmed}
use Rattle.jedec_reader.proofs.words.trimmed.Given as goal

abbrev pub invariant-loop-place : goal.invariant-loop-place
invariant-loop-place l = trimmed (drop l.place l.text) ≡ trimmed l.text
