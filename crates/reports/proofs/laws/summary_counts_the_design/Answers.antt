use Rattle.reports.proofs.Counts.{counts_the_design}
use Rattle.reports.proofs.laws.summary_counts_the_design.Goals as goal

pub returns : goal.returns
returns c = counts_the_design
