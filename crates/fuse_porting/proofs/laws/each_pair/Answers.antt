use Rattle.fuse_porting.proofs.OnlyPair.{only_pair}
use Rattle.fuse_porting.proofs.PairTables.{each_is_mutual, each_is_pair, turned_array}
use Rattle.fuse_porting.proofs.laws.each_pair.Goals as goal

pub returns-clause-pair : goal.returns-clause-pair
returns-clause-pair c = each_is_pair

pub returns-clause-mutual : goal.returns-clause-mutual
returns-clause-mutual c = each_is_mutual

pub returns-clause-only : goal.returns-clause-only
returns-clause-only c = only_pair

pub returns-clause-back : goal.returns-clause-back
returns-clause-back c = turned_array
