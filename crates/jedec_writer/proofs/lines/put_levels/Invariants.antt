use Rattle.std.proofs.Common.{◌≡◌, ◌++◌, take, map}
use Rattle.jedec_writer.proofs.Common.{level_char}
use Rattle.jedec_writer.proofs.lines.put_levels.Given as goal

abbrev pub invariant-loop-level : goal.invariant-loop-level
invariant-loop-level l = l.out.items ≡ l.initial.out.items ++ map level_char (take l.level-index l.levels)
