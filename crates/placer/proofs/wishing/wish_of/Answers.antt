-- One pin more.
use Rattle.std.proofs.Common.{[], ◌∷◌, ◌++◌, get_or, refl, sym, ap, ◌∙◌, arith}
use Rattle.placer.proofs.Common.{take_all, view_declared, wanted_of}
use Rattle.placer.proofs.PinLists.{wanted_more, wanted_same}
use Rattle.placer.proofs.wishing.wish_of.Goals.{then-is_wanted+in_ok-push, else-is_wanted}
use Rattle.placer.proofs.wishing.wish_of.Goals as goal

pub loop-pin-preserved : goal.loop-pin-preserved
loop-pin-preserved g c = λ es free.
    let t = g.D.Device.table in
    let l = c.loop-pin in
    let x = view_declared c.args.declared.now in
    let pins = c.as_slice-pin-items.result.now in
    let pin = get_or pins l.pin-index 0 in
    elim c.if-is_wanted.branch [
      | then-is_wanted+in_ok-push w ↦
          ap (λ v. v.items) w.list-is
          ∙ ((w.in_ok-push.ensures.items ∙ ap (λ p. l.list.items ++ p ∷ []) w.from.ensures)
          ∙ (ap (λ xs. xs ++ pin ∷ []) (l.invariant es free)
          ∙ wanted_more t es c.args.read x pins l.pin-index pin c.loop-pin-test.true refl (sym (c.is_wanted.ensures es free) ∙ w.if-is_wanted.true)))
      | else-is_wanted w ↦
          ap (λ v. v.items) w.list-is
          ∙ (l.invariant es free ∙ wanted_same t es c.args.read x pins l.pin-index pin c.loop-pin-test.true refl (sym (c.is_wanted.ensures es free) ∙ w.if-is_wanted.false))
    ]

pub returns : goal.returns
returns g c = λ es free.
    let l = c.loop-pin in
    c.new.ensures
    ∙ (l.invariant es free
    ∙ ap (wanted_of g.D.Device.table es c.args.read (view_declared c.args.declared.now))
    (take_all l.pin-index c.as_slice-pin-items.result.now (omega (arith, c.loop-pin-test.false)) ∙ (c.as_slice-pin-items.ensures.value ∙ c.in_ok-pins.ensures)))
