-- The characters so far.
use Rattle.std.proofs.Common.{◌≡◌, ◌++◌, drop, map, take}
use Rattle.page_model.specs.Phases.{phase_char}
use Rattle.page_model.proofs.phases.turn_chars.Given as goal

abbrev pub invariant-loop-place : goal.invariant-loop-place
invariant-loop-place l = l.chars ≡ map (phase_char l.turned) (take l.place l.initial.chars) ++ drop l.place l.initial.chars
