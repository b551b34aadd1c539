-- Where memory runs out before the text is put, an empty front of it was taken.
use Rattle.std.proofs.Common.{◌≡◌, [], refl, sym, inr}
use Rattle.std.proofs.lemmas.List.{append-nil}
use Rattle.fuse_reports.specs.Call.{Heard, heard}
use Rattle.fuse_reports.specs.Ending.{Ending, memory_line}
use Rattle.fuse_reports.specs.Telling.{TakesFront, Tells}
use Rattle.fuse_reports.specs.View.{view}
use Rattle.fuse_reports.proofs.telling.tell.Goals as goal

memory_first : (ending : Ending) (h : Heard) → h.status ≡ 8 → (h.told → TakesFront memory_line h.old h.new) → Tells ending h
memory_first ending h is taken = inr (inr (is, λ tells. (h.old, ([], (_, refl), sym (append-nil h.old)), taken tells)))

pub returns-in_default : goal.returns-in_default
returns-in_default g c = memory_first (view c.args.outcome.now) (heard _ _ _ _ _ _) c.report_memory.ensures.status c.report_memory.ensures.taken
