use Rattle.std.proofs.Common.{◌≡◌, ◌++◌, take, flat_map}
use Rattle.demo_source.proofs.Common.{further_text}
use Rattle.demo_source.proofs.vectors.put_stimulus.Given as goal

abbrev pub invariant-loop-input : goal.invariant-loop-input
invariant-loop-input l = l.out.items ≡ l.initial.out.items ++ flat_map further_text (take l.input-index l.inputs)
