-- One pin more.
use Rattle.std.proofs.Common.{◌≡◌, ◌+◌, ◌++◌, ◌∷◌, [], sym, ap, ◌∙◌, append_assoc, arith}
use Rattle.placer.proofs.PinLists.{plain_more, plain_same, plain_to}
use Rattle.placer.proofs.preferring.add_plain.Goals.{then-is_plain+in_ok-push, else-is_plain}
use Rattle.placer.proofs.preferring.add_plain.Goals as goal

pub loop-index-preserved : goal.loop-index-preserved
loop-index-preserved g c =
    let t = g.D.Device.table in
    let l = c.loop-index in
    let old = c.args.list.now.items in
    let pin : l.index + 1 ≡ 1 + l.index = omega arith in
    elim c.if-is_plain.branch [
      | then-is_plain+in_ok-push w ↦
          ap (λ v. v.items) w.list-is
          ∙ (w.in_ok-push.ensures.items
          ∙ (ap (λ xs. xs ++ (l.index + 1) ∷ []) l.invariant
          ∙ (append_assoc old (plain_to t l.index) ((l.index + 1) ∷ [])
          ∙ ap (λ xs. old ++ xs) (plain_more t l.index (l.index + 1) pin (sym c.is_plain.ensures ∙ w.if-is_plain.true)))))
      | else-is_plain w ↦ ap (λ v. v.items) w.list-is ∙ (l.invariant ∙ ap (λ xs. old ++ xs) (plain_same t l.index (l.index + 1) pin (sym c.is_plain.ensures ∙ w.if-is_plain.false)))
    ]

pub returns : goal.returns
returns g c =
    let t = g.D.Device.table in
    let end = c.loop-index.auto.index-end in
    let same : c.loop-index.index ≡ t.pins = omega (arith, c.loop-index-test.false, c.pins-index-end.ensures, end) in
    c.loop-index.invariant ∙ ap (λ n. c.args.list.now.items ++ plain_to t n) same
