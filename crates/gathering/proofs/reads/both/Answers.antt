use Rattle.std.proofs.Common.{◌||◌, ap₂, ◌∙◌}
use Rattle.bit_expr.proofs.LeafBits.{is_on-or}
use Rattle.gathering.proofs.reads.both.Goals as goal

pub returns : goal.returns
returns c = λ f g a b. record {
  pins = λ p below. is_on-or 32 c.args.a.pins c.args.b.pins p below ∙ ap₂ (λ x y. x || y) (a.pins p below) (b.pins p below);
  q = λ d below. is_on-or 32 c.args.a.q c.args.b.q d below ∙ ap₂ (λ x y. x || y) (a.q d below) (b.q d below);
  nodes = λ n below. is_on-or 128 c.args.a.nodes c.args.b.nodes n below ∙ ap₂ (λ x y. x || y) (a.nodes n below) (b.nodes n below);
}
