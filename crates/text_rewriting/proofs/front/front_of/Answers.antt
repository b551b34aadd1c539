-- A rewriting is one for all tables.
use Rattle.std.proofs.Common.{◌-◌, ℕ, sym, ap, subst, drop}
use Rattle.text_rewriting.proofs.Common.{Tables, Front, rewriting_text, rule_move, IsCallOf, IsRuleOf, IsFront, IsRewritten}
use Rattle.text_rewriting.specs.declared.rules.Rule.{Rule}
use Rattle.text_rewriting.proofs.Fronts.{if_ok_map, rewritten_front}
use Rattle.text_rewriting.proofs.front.front_of.Goals as goal

pub returns-in-Rewrite : goal.returns-in-Rewrite
returns-in-Rewrite c =
    if_ok_map c.rewritten.result (λ (f : Front). (t : Tables) → IsCallOf t c.in-Rewrite.rewriting → IsRewritten t (rewriting_text c.in-Rewrite.rewriting) (c.args.most - (c.len.result - c.args.end)) c.args.end f)
    (λ (f : Front). (t : Tables) → IsRuleOf t c.args.rule → IsFront t c.args.rest.now c.args.most (rule_move t c.args.rest.now (drop c.args.end c.args.rest.now) c.args.rule) f)
    (λ f h t o. subst (λ (r : Rule). IsFront t c.args.rest.now c.args.most (rule_move t c.args.rest.now (drop c.args.end c.args.rest.now) r) f) (sym c.in-Rewrite.is)
    (rewritten_front t c.args.rest.now (rewriting_text c.in-Rewrite.rewriting) c.args.most (c.args.most - (c.len.result - c.args.end)) c.args.end f
    (ap (λ (n : ℕ). c.args.most - (n - c.args.end)) c.len.ensures.value) c.requires.room c.requires.within (h t (subst (IsRuleOf t) c.in-Rewrite.is o)))) c.rewritten.ensures
