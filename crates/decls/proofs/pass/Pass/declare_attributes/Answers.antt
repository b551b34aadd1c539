-- Items, and then strings and their words.
use Rattle.std.proofs.Common.{◌≡◌, false, refl, subst, sym, ap, ◌∙◌}
use Rattle.decls.proofs.Common.{on_ok_weaker, Pass, Follows, items_told, items_refused, refuse_all}
use Rattle.decls.proofs.Added.{adds_attributes, adds_items_told}
use Rattle.decls.proofs.LeftOut.{goes_on}
use Rattle.decls.proofs.pass.Pass.declare_attributes.Goals as goal

pub returns-then-self : goal.returns-then-self
returns-then-self c = λ w s f.
    c.leave_out.ensures w s _ c.if-self.true
    (λ h k. adds_attributes c.args.self.now.table.fault c.args.names.now c.args.attributes.now s h k) f

pub returns-then-stops_at_words : goal.returns-then-stops_at_words
returns-then-stops_at_words c = λ w s f.
    let d = c.args.self.now in
    let m = refuse_all (items_refused s.entries c.args.names.now) s in
    let checked = goes_on w d (record d { table = c.check_items.new.self }) s m refl c.if-self.false (c.in_ok-check_items.ensures w.table s (f.shown c.if-self.false)) f in
    c.stops_at_words.ensures.stops c.if-stops_at_words.true w m (items_told c.args.names.now c.args.attributes.now m)
    (λ h. adds_items_told c.check_items.new.self.fault c.args.names.now c.args.attributes.now m h) checked

pub returns : goal.returns
returns c =
    let d = c.args.self.now in
    let same = c.stops_at_words.ensures.goes c.if-stops_at_words.false in
    on_ok_weaker c.tell_items.result
    (λ h w s f.
    let n = c.stops_at_words.new.self in
    let m = refuse_all (items_refused s.entries c.args.names.now) s in
    let checked = goes_on w d (record d { table = c.check_items.new.self }) s m refl c.if-self.false (c.in_ok-check_items.ensures w.table s (f.shown c.if-self.false)) f in
    let fn : Follows w n m = subst (λ x. Follows w x m) (sym same) checked in
    let kn : n.skipped ≡ false = ap (λ (x : Pass). x.skipped) same ∙ c.if-self.false in
    goes_on w n (record n { table = c.tell_items.new.self }) m (items_told c.args.names.now c.args.attributes.now m) refl kn (h w.table m (fn.shown kn)) fn)
    c.tell_items.ensures
