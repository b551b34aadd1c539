use Rattle.std.proofs.Common.{◌≡◌, ◌++◌, take}
use Rattle.design_drawings.specs.Pieces.{all_shown}
use Rattle.design_drawings.proofs.page.Page.put.Given as goal

abbrev pub invariant-loop-piece : goal.invariant-loop-piece
invariant-loop-piece l = l.self ≡ l.initial.self ++ all_shown (take l.piece-index l.pieces)
