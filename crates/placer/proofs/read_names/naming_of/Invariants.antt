-- What the names so far represent.
use Rattle.std.proofs.Common.{map, take}
use Rattle.placer.proofs.Common.{named_of, view_declared, AreMarks, read_names_of}
use Rattle.placer.proofs.read_names.naming_of.Given as goal

abbrev pub invariant-loop-number : goal.invariant-loop-number
invariant-loop-number l = record {
  reading : AreMarks l.signals (read_names_of (map view_declared (take l.number l.names))) l.naming.reading;
  targets : AreMarks l.signals (named_of (map view_declared (take l.number l.names))) l.naming.targets;
}
