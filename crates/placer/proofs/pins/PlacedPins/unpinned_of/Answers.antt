-- One name more.
use Rattle.std.proofs.Common.{[], ◌∷◌, ◌++◌, map, take, sym, ap, ◌∙◌, arith}
use Rattle.placer.proofs.Common.{take_all, view_declared, view_given, items_left, node_given}
use Rattle.placer.proofs.Mapped.{mapped_more}
use Rattle.placer.proofs.Items.{left_push}
use Rattle.placer.proofs.pins.PlacedPins.unpinned_of.Goals as goal

pub loop-one-preserved : goal.loop-one-preserved
loop-one-preserved c = λ known.
    let l = c.loop-one in
    let pin = node_given (map view_declared c.args.names.now) c.args.self.now in
    c.in_ok-add_unpinned.ensures known
    ∙ (ap (λ xs. xs ++ items_left pin (view_given c.one-item.result ∷ [])) (l.invariant known)
    ∙ sym (ap (items_left pin) (mapped_more view_given c.args.given.now l.one-index c.one-item.result c.loop-one-test.true c.one-item.is)
    ∙ left_push pin (map view_given (take l.one-index c.args.given.now)) (view_given c.one-item.result)))

pub returns : goal.returns
returns c = λ known.
    let l = c.loop-one in
    let pin = node_given (map view_declared c.args.names.now) c.args.self.now in
    c.from_vec.ensures ∙ (l.invariant known ∙ ap (λ xs. items_left pin (map view_given xs)) (take_all l.one-index c.args.given.now (omega (arith, c.loop-one-test.false))))
