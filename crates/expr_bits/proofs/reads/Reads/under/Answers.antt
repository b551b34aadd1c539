-- The same under each extension.
use Rattle.std.proofs.Common.{refl, sym, ap, ◌∙◌}
use Rattle.expr_bits.proofs.Common.{ALeaf, ASignal, innermost, leaf_under}
use Rattle.expr_bits.proofs.ReadLaws.{alike_leaf}
use Rattle.expr_bits.proofs.reads.Reads.under.Goals as goal

pub returns-in-Some : goal.returns-in-Some
returns-in-Some c ASignal = refl
returns-in-Some c (ALeaf e) =
    alike_leaf c.args.self.signal c.leaf-leaf.result e ∙ c.leaf-leaf.ensures
    ∙ ap (leaf_under c.args.self) (c.in-Some.is ∙ ap (λ x. innermost x e) (sym c.in-Some.is))
