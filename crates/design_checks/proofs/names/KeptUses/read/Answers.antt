use Rattle.std.proofs.Common.{ap, ◌∙◌}
use Rattle.design_checks.proofs.Common.{term_named, positions_of, read_of, use_under}
use Rattle.design_checks.proofs.LearntName.{under_is}
use Rattle.design_checks.proofs.names.KeptUses.read.Goals as goal

pub returns : goal.returns
returns c d knows =
    let t = term_named d.known c.args.text.now in
    c.under.ensures ∙ ap (λ n. use_under n c.args.extension) (c.get.ensures d knows) ∙ under_is (read_of c.args.self.now.rule d t) (positions_of d t) c.args.extension
