use Rattle.covers.proofs.unate.add_weight.Given as goal

abbrev pub decreases-loop-left : goal.decreases-loop-left
decreases-loop-left l = l.left
