-- Links that each have a leaf that may be there.
use Rattle.std.proofs.Common.{zero, suc, List, [], ◌∷◌, subst, All, IfSome}
use Rattle.netlist_rows.proofs.Common.{All-head, All-tail, IsLeaf, AreLeaves, HasLeaf}
use Rattle.gathering.specs.declared.link.Link.{Link}

pub are_leaves : (rs : List Link) → All HasLeaf rs → AreLeaves rs
are_leaves [] all v l is = absurd cc
are_leaves (r ∷ rs) all zero l is = subst (λ o. IfSome o IsLeaf) is (All-head HasLeaf r rs all)
are_leaves (r ∷ rs) all (suc v) l is = are_leaves rs (All-tail HasLeaf r rs all) v l is
