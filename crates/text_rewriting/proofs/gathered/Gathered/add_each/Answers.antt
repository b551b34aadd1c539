-- One argument more.
use Rattle.std.proofs.Common.{rules, ◌≡◌, ◌++◌, ◌∙◌, List, [], ◌∷◌, ap, arith, take, drop, ℕ}
use Rattle.text_rewriting.proofs.Common.{Vec, joined, replaced, standing_for, texts, each_replaced, Gathering}
use Rattle.text_rewriting.proofs.Replaces.{each_next}
use Rattle.text_rewriting.proofs.gathered.Gathered.add_each.Goals as goal

pub arguments-preserved : goal.arguments-preserved
arguments-preserved c =
    let one : c.split_at-in-arguments.result.0.now ≡ take 1 (drop c.arguments.at c.args.arguments.now) = search rules in
    let new : c.add_replaced.new.self.text ≡ c.arguments.self.text ++ replaced (standing_for (c.args.parameter.items ∷ []) (texts (take 1 (drop c.arguments.at c.args.arguments.now)))) 0 (joined c.args.block.now) =
    ap (λ (g : Gathering). g.text) c.in_ok-add_replaced.ensures.ok
    ∙ ap (λ (ws : List (Vec (List ℕ))). c.arguments.self.text ++ replaced (standing_for (c.args.parameter.items ∷ []) (texts ws)) 0 (joined c.args.block.now)) one in
    record {
      text = each_next c.args.parameter.items (joined c.args.block.now) c.args.arguments.now c.arguments.at c.arguments.self.text c.add_replaced.new.self.text
          (c.args.self.now.text ++ each_replaced c.args.parameter.items (texts c.args.arguments.now) (joined c.args.block.now)) (omega arith) new c.arguments.invariant.text;
      most = ap (λ (g : Gathering). g.most) c.in_ok-add_replaced.ensures.ok ∙ c.arguments.invariant.most;
    }
