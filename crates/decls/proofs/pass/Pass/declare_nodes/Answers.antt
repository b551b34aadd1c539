-- Checks, and then the names.
use Rattle.std.proofs.Common.{fold, refl, subst, ap, ap₂, ◌∙◌}
use Rattle.decls.proofs.Common.{on_ok_weaker, all_said, given_names, Follows, has_numbers, new_checked, node_step, waits_if}
use Rattle.decls.proofs.Added.{adds_new_nodes}
use Rattle.decls.proofs.LeftOut.{goes_on}
use Rattle.decls.proofs.pass.Pass.declare_nodes.Goals as goal

pub returns-then-self : goal.returns-then-self
returns-then-self c = λ w s f.
    let words = c.args.attributes.now in
    c.leave_out.ensures w s _ c.if-self.true
    (λ h k. adds_new_nodes c.args.self.now.table.fault (has_numbers c.args.numbers.now) (all_said words) c.args.names.now words s h k) f

pub returns : goal.returns
returns c =
    let d = c.args.self.now in
    let names = c.args.names.now in
    let words = c.args.attributes.now in
    on_ok_weaker c.wait_if.result
    (λ h w s f.
    let checked = goes_on w d (record d { table = c.check_new.new.self }) s (new_checked c.has_numbers.result names words s) refl c.if-self.false (c.in_ok-check_new.ensures w.table s (f.shown c.if-self.false)) f in
    subst (Follows w c.wait_if.new.self)
    (ap₂ (λ u v. waits_if u.buffer (given_names names) (fold (node_step v) (new_checked c.has_numbers.result names words s) (given_names names))) c.all_in-2.ensures c.all_in.ensures
    ∙ ap (λ b. waits_if (all_said words).buffer (given_names names) (fold (node_step (all_said words)) (new_checked b names words s) (given_names names))) c.has_numbers.ensures)
    (h w _ (c.in_ok-enter_node_items.ensures w _ c.if-self.false checked)))
    c.wait_if.ensures
