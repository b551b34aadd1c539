-- So many signals are checked and noted.
use Rattle.std.proofs.Common.{◌≡◌, List, ◌++◌, take, map}
use Rattle.section_targets.proofs.Common.{first_refusal, Context, IsContextOf, section_order, Manner, manner_of, aims_refused, AreFirsts}
use Rattle.section_targets.proofs.outputs.check_aims.Given as goal

abbrev pub invariant-loop-aim : goal.invariant-loop-aim
invariant-loop-aim g l =
    ((all : List Manner) → AreFirsts l.initial.before all → AreFirsts l.before (all ++ map (manner_of l.way.extension l.way.complement l.way.clocked) (take l.aim-index l.aims)))
    × ((d : Context) (all : List Manner) → IsContextOf g.D.Device.table l.scope d → AreFirsts l.initial.before all → l.fault ≡ first_refusal section_order (aims_refused d all l.way.extension l.way.complement l.way.clocked (take l.aim-index l.aims)))
