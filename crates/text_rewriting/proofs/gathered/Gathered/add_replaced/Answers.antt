-- The arguments by their names represent the parameters.
use Rattle.std.proofs.Common.{◌≡◌, ◌++◌, ◌<◌, OnOk, IfErr, List, ℕ, Option, subst, length}
use Rattle.text_rewriting.proofs.Common.{joined, replaced, Shortage}
use Rattle.text_rewriting.specs.declared.gathered.Shortage.TheVariants as shortage
use Rattle.text_rewriting.proofs.gathered.Gathered.add_replaced.Goals as goal

pub returns-clause-ok : goal.returns-clause-ok
returns-clause-ok c =
    subst (λ (f : List ℕ → Option (List ℕ)). OnOk c.add_bound.result (c.add_bound.new.self ≡ record { text = c.args.self.now.text ++ replaced f 0 (joined c.args.block.now); most = c.args.self.now.most })) c.in_ok-bound.ensures c.add_bound.ensures.ok

pub returns-clause-long : goal.returns-clause-long
returns-clause-long c =
    subst (λ (f : List ℕ → Option (List ℕ)). IfErr c.add_bound.result (λ (e : Shortage). e ≡ shortage.TooLong → c.args.self.now.most < length (c.args.self.now.text ++ replaced f 0 (joined c.args.block.now)))) c.in_ok-bound.ensures c.add_bound.ensures.long
