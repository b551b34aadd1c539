-- A text that is too long once is too long more often.
use Rattle.std.proofs.Common.{rules, ◌≡◌, ◌<◌, ◌++◌, length, replicate}
use Rattle.text_rewriting.proofs.Common.{concat, joined}
use Rattle.text_rewriting.specs.declared.gathered.Shortage.TheVariants as shortage
use Rattle.text_rewriting.proofs.Gathers.{once_long}
use Rattle.text_rewriting.proofs.gathered.Gathered.add_some.Goals as goal

pub returns-in_err-add_all-clause-long : goal.returns-in_err-add_all-clause-long
returns-in_err-add_all-clause-long c =
    let l : c.in_err-add_all.field-0.0 ≡ shortage.TooLong → c.args.self.now.most < length (c.args.self.now.text ++ concat (replicate c.args.count (joined c.args.pieces.now))) =
    λ e. once_long c.args.count (joined c.args.pieces.now) c.args.self.now.text c.requires c.args.self.now.most (c.in_err-add_all.ensures.long e) in
    search rules
