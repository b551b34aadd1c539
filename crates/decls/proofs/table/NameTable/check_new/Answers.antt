-- Ranges, counts, and then strings.
use Rattle.decls.proofs.table.NameTable.check_new.Goals as goal

pub returns : goal.returns
returns c = λ t s sh. c.check_strings.ensures t _ (c.in_ok-refuse_counts.ensures t _ (c.refuse_ranges.ensures t s sh))
