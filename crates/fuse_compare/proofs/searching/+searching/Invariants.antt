use Rattle.std.proofs.Common.{◌+◌, ◌-◌, ◌*◌, length}
use Rattle.fuse_compare.proofs.searching.+searching.Given as goal

abbrev pub decreases-search_at : goal.decreases-search_at
decreases-search_at g l = 2 * (length l.search.now.vars.now - l.from)

abbrev pub decreases-search_from : goal.decreases-search_from
decreases-search_from g l = 2 * (length l.search.now.vars.now - l.from) + 1
