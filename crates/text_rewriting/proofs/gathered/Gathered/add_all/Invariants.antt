-- What was gathered and the pieces that are left are the whole.
use Rattle.std.proofs.Common.{◌≡◌, ◌++◌, drop}
use Rattle.text_rewriting.proofs.Common.{joined}
use Rattle.text_rewriting.proofs.gathered.Gathered.add_all.Given as goal

abbrev pub invariant-loop-piece : goal.invariant-loop-piece
invariant-loop-piece l = record { text : l.self.text ++ joined (drop l.piece-index l.pieces) ≡ l.fn.self.text ++ joined l.pieces; most : l.self.most ≡ l.fn.self.most }
