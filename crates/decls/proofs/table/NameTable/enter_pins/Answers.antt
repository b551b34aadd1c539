-- One name more.
use Rattle.std.proofs.Common.{map, fold, take, sym, subst, ap, ◌∙◌}
use Rattle.decls.proofs.Common.{fold-append, pin_numbered, pin_step, with_numbers, Shows, view_given, view_said}
use Rattle.decls.proofs.Folded.{numbered_more}
use Rattle.decls.proofs.table.NameTable.enter_pins.Goals as goal

pub loop-place-preserved : goal.loop-place-preserved
loop-place-preserved c = λ m s sh.
    let l = c.loop-place in
    let step = pin_step m (view_said c.args.said) in
    let x = view_given c.index-names-place.result in
    let before = with_numbers (map view_given (take l.place c.args.names.now)) c.args.numbers.now in
    subst (Shows m c.enter_pin.new.self)
    (ap (λ o. pin_numbered m (view_said c.args.said) x o (fold step s before)) c.number_at.ensures
    ∙ (sym (fold-append step s before _)
    ∙ ap (fold step s) (sym (numbered_more view_given c.args.names.now c.args.numbers.now l.place c.index-names-place.result c.loop-place-test.true c.index-names-place.is))))
    (c.in_ok-enter_pin.ensures m _ (l.invariant m s sh))
