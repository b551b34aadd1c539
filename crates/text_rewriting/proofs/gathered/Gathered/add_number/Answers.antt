-- The digits of a value are at most 32.
use Rattle.std.proofs.Common.{◌≡◌, ◌++◌, ◌<◌, OnOk, IfErr, List, ℕ, sym, subst, length}
use Rattle.text_rewriting.proofs.Common.{Shortage}
use Rattle.text_rewriting.specs.declared.gathered.Shortage.TheVariants as shortage
use Rattle.text_rewriting.proofs.Moves.{digits_are}
use Rattle.text_rewriting.proofs.gathered.Gathered.add_number.Goals as goal

pub returns-clause-ok : goal.returns-clause-ok
returns-clause-ok c =
    subst (λ (w : List ℕ). OnOk c.add_digits.result (c.add_digits.new.self ≡ record { text = c.args.self.now.text ++ w; most = c.args.self.now.most })) (sym (digits_are c.args.radix c.args.value)) c.add_digits.ensures.ok

pub returns-clause-long : goal.returns-clause-long
returns-clause-long c =
    subst (λ (w : List ℕ). IfErr c.add_digits.result (λ (e : Shortage). e ≡ shortage.TooLong → c.args.self.now.most < length (c.args.self.now.text ++ w))) (sym (digits_are c.args.radix c.args.value)) c.add_digits.ensures.long
