-- The names of the signals so far.
use Rattle.std.proofs.Common.{◌≡◌, ◌++◌, take}
use Rattle.reports.proofs.Common.{entries_of, names_text}
use Rattle.reports.proofs.placings.put_signals.Given as goal

abbrev pub invariant-loop-signal : goal.invariant-loop-signal
invariant-loop-signal l = l.text.items ≡ l.initial.text.items ++ names_text (entries_of l.names) (take l.signal-index l.signals)
