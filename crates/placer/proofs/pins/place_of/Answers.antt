-- One signal more.
use Rattle.std.proofs.Common.{◌≡◌, ◌<◌, true, false, length, map, get_or, sym, ap, ◌∙◌, arith, bytes_eq}
use Rattle.placer.proofs.Common.{All-get_or, Entry, view_declared, place_first, place_here, place_later, place_none}
use Rattle.placer.proofs.DeclaredAt.{seen_at}
use Rattle.placer.proofs.Pinned.{is_name}
use Rattle.placer.proofs.pins.place_of.Goals as goal

pub loop-place-init : goal.loop-place-init
loop-place-init c = place_first (is_name (map view_declared c.args.names.now) c.args.name.now) 0 c.args.signals.now

pub bounds-names-signal : goal.bounds-names-signal
bounds-names-signal c = All-get_or (λ s. s < length c.args.names.now) c.args.signals.now c.loop-place.place 0 c.loop-place-test.true c.requires

pub returns-then-is_named-clause-found : goal.returns-then-is_named-clause-found
returns-then-is_named-clause-found c =
    let l = c.loop-place in
    let s = get_or c.args.signals.now l.place 0 in
    let low = All-get_or (λ k. k < length c.args.names.now) c.args.signals.now l.place 0 c.loop-place-test.true c.requires in
    let seen = seen_at c.args.names.now s c.index-names-signal.result low c.index-names-signal.is in
    let here = ap (λ (e : Entry). bytes_eq c.args.name.now e.name) seen ∙ (sym c.is_named.ensures ∙ c.if-is_named.true) in
    sym (l.invariant ∙ place_here (is_name (map view_declared c.args.names.now) c.args.name.now) 0 c.args.signals.now l.place c.loop-place-test.true here)

pub loop-place-preserved : goal.loop-place-preserved
loop-place-preserved c =
    let l = c.loop-place in
    let s = get_or c.args.signals.now l.place 0 in
    let low = All-get_or (λ k. k < length c.args.names.now) c.args.signals.now l.place 0 c.loop-place-test.true c.requires in
    let seen = seen_at c.args.names.now s c.index-names-signal.result low c.index-names-signal.is in
    let other = ap (λ (e : Entry). bytes_eq c.args.name.now e.name) seen ∙ (sym c.is_named.ensures ∙ c.if-is_named.false) in
    l.invariant ∙ place_later (is_name (map view_declared c.args.names.now) c.args.name.now) 0 c.args.signals.now l.place c.loop-place-test.true other

pub returns-clause-found : goal.returns-clause-found
returns-clause-found c =
    sym (c.loop-place.invariant ∙ place_none (is_name (map view_declared c.args.names.now) c.args.name.now) 0 c.args.signals.now c.loop-place.place (omega (arith, c.loop-place-test.false)))
