-- Checks, and then the names with their numbers.
use Rattle.std.proofs.Common.{fold, length, refl, subst, ap, ap₂, ◌∙◌}
use Rattle.decls.proofs.Common.{on_ok_weaker, numbers_of, all_said, given_names, Follows, HasNumbers, counts_differ, new_checked, pin_step, waits_if, with_numbers}
use Rattle.decls.proofs.Added.{adds_new_pins}
use Rattle.decls.proofs.LeftOut.{goes_on}
use Rattle.decls.proofs.pass.Pass.declare_pins.Goals as goal

pub returns-then-self : goal.returns-then-self
returns-then-self c = λ w s f.
    let names = c.args.names.now in
    let numbers = c.args.numbers.now in
    let words = c.args.attributes.now in
    c.leave_out.ensures w s _ c.if-self.true
    (λ h k. adds_new_pins c.args.self.now.table.fault w.table (counts_differ names numbers) (all_said words) names (numbers_of (length (given_names names)) numbers) words s h k) f

pub returns : goal.returns
returns c =
    let d = c.args.self.now in
    let names = c.args.names.now in
    let words = c.args.attributes.now in
    let ns = numbers_of (length (given_names names)) c.args.numbers.now in
    on_ok_weaker c.wait_if.result
    (λ h w s f.
    let wrong = c.counts_differ-wrong.result in
    let checked = goes_on w d (record d { table = c.check_new.new.self }) s (new_checked wrong names words s) refl c.if-self.false (c.in_ok-check_new.ensures w.table s (f.shown c.if-self.false)) f in
    let first = c.in_ok-first.first in
    let numbers = subst (λ b. HasNumbers b first.room first.list.items ns) checked.skips
    (subst (λ n. HasNumbers d.skips first.room first.list.items (numbers_of n c.args.numbers.now)) c.count_names-count.ensures c.in_ok-first.ensures) in
    subst (Follows w c.wait_if.new.self)
    (ap₂ (λ u v. waits_if u.buffer (given_names names) (fold (pin_step w.table v) (new_checked wrong names words s) (with_numbers (given_names names) ns))) c.all_in-2.ensures c.all_in.ensures
    ∙ ap (λ b. waits_if (all_said words).buffer (given_names names) (fold (pin_step w.table (all_said words)) (new_checked b names words s) (with_numbers (given_names names) ns))) (c.counts_differ-wrong.ensures c.count_names-count.ensures))
    (h w _ (c.in_ok-enter_pin_items.ensures w _ ns numbers c.if-self.false checked)))
    c.wait_if.ensures
