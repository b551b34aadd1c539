-- One pair more.
use Rattle.std.proofs.Common.{◌≡◌, ◌+◌, ◌-◌, ◌∙◌, ap, arith, ℕ, List, drop}
use Rattle.text_rewriting.proofs.Common.{Vec, standing_for, names, texts, bound}
use Rattle.text_rewriting.proofs.Bounds.{next_bound}
use Rattle.text_rewriting.proofs.bound.Arguments.new.Goals as goal

pub pairs-preserved : goal.pairs-preserved
pairs-preserved c =
    let i = c.pairs.invariant in
    let back : c.pairs.left ≡ (c.pairs.left - 1) + 1 = omega (arith, c.pairs-test.true) in
    let before : bound c.pairs.by_name.entries ≡ standing_for (names (drop ((c.pairs.left - 1) + 1) c.args.parameters.now)) (texts (drop ((c.pairs.left - 1) + 1) c.args.arguments.now)) =
    i.pairs ∙ ap (λ (n : ℕ). standing_for (names (drop n c.args.parameters.now)) (texts (drop n c.args.arguments.now))) back in
    record {
      pairs = next_bound c.pairs.by_name.entries c.insert.new.self.entries c.in_ok-name.name c.as_slice-in-pairs.result c.args.parameters.now c.args.arguments.now (c.pairs.left - 1) _ _ (omega (arith, i.few, c.pairs-test.true)) (omega (arith, i.fewer, c.pairs-test.true))
          (c.in_ok-name.ensures.items ∙ c.as_slice.ensures.value ∙ ap (λ (v : Vec ℕ). v.items) c.index-parameters-left.is) (c.as_slice-in-pairs.ensures.value ∙ ap (λ (v : Vec (List ℕ)). v.items) c.index-arguments-left.is) c.in_ok-insert.ensures.entries before;
      few = omega (arith, i.few);
      fewer = omega (arith, i.fewer);
    }
