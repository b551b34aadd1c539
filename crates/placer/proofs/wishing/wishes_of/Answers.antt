-- One signal more.
use Rattle.std.proofs.Common.{◌≡◌, ◌<◌, ◌≤◌, [], ◌∷◌, ◌++◌, length, map, get_or, sym, ap, ap₂, ◌∙◌, arith}
use Rattle.placer.proofs.Common.{take_all, All-get_or, Entry, view_declared, no_name, wish}
use Rattle.placer.proofs.DeclaredAt.{seen_at}
use Rattle.placer.proofs.Mapped.{mapped_next}
use Rattle.placer.proofs.wishing.wishes_of.Goals as goal

pub bounds-names-signal : goal.bounds-names-signal
bounds-names-signal g c = All-get_or (λ s. s < length c.args.names.now) c.args.signals.now c.loop-place.place 0 c.loop-place-test.true c.requires.inside

pub loop-place-preserved : goal.loop-place-preserved
loop-place-preserved g c = λ is_read marks.
    let t = g.D.Device.table in
    let l = c.loop-place in
    let ds = c.args.names.now in
    let es = map view_declared ds in
    let ss = c.args.signals.now in
    let s = get_or ss l.place 0 in
    let inside = All-get_or (λ k. k < length ds) ss l.place 0 c.loop-place-test.true c.requires.inside in
    let seen = seen_at ds s c.index-names-signal.result inside c.index-names-signal.is in
    let one = c.in_ok-wish.ensures es c.free_pins-free.ensures ∙ ap₂ (λ b (x : Entry). wish t es b x) (c.level_at-is_read.ensures ∙ marks l.place c.loop-place-test.true) (sym seen) in
    c.in_ok-push.ensures.items
    ∙ (ap₂ (λ xs x. xs ++ x ∷ []) (l.invariant is_read marks) one ∙ sym (mapped_next (λ k. wish t es (is_read k) (get_or es k no_name)) ss l.place 0 c.loop-place-test.true))

pub returns : goal.returns
returns g c = λ is_read marks.
    let t = g.D.Device.table in
    let l = c.loop-place in
    let es = map view_declared c.args.names.now in
    l.invariant is_read marks ∙ ap (map (λ k. wish t es (is_read k) (get_or es k no_name))) (take_all l.place c.args.signals.now (omega (arith, c.loop-place-test.false)))
