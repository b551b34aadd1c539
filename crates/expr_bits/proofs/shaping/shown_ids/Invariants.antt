-- So many positions are there.
use Rattle.std.proofs.Common.{◌≡◌, take}
use Rattle.expr_bits.proofs.Common.{shown_ids}
use Rattle.expr_bits.proofs.shaping.shown_ids.Given as goal

abbrev pub invariant-loop-index : goal.invariant-loop-index
invariant-loop-index l = l.places.items ≡ shown_ids (take l.index l.word) (take l.index l.unknown)
