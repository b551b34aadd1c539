-- One signal more.
use Rattle.std.proofs.Common.{◌≡◌, ◌<◌, ◌≤◌, ◌+◌, List, ℕ, [], ◌++◌, drop, length, map, get_or, sym, ap, ap₂, ◌∙◌, append_assoc, subst}
use Rattle.placer.proofs.Common.{append-nil, All-get_or, view_declared, view_stmt, no_name, released_if, all_released, with_pins}
use Rattle.placer.proofs.DeclaredAt.{seen_at}
use Rattle.placer.proofs.Released.{released_next, released_past}
use Rattle.placer.proofs.pins.PlacedPins.all_released.Goals as goal

pub loop-place-init : goal.loop-place-init
loop-place-init c = λ has marks. ap (λ xs. map view_stmt xs ++ all_released (map view_declared c.args.names.now) has (with_pins c.args.self.now.signals.items c.args.self.now.pins.items)) c.new-list.ensures.items

pub bounds-names-signal : goal.bounds-names-signal
bounds-names-signal c =
    let ss = c.args.self.now.signals.items in
    let same = c.deref-signal-items.ensures.value in
    let low = subst (λ (xs : List ℕ). c.loop-place.place < length xs) same c.loop-place-test.true in
    subst (λ (xs : List ℕ). get_or xs c.loop-place.place 0 < length c.args.names.now) (sym same) (All-get_or (λ s. s < length c.args.names.now) ss c.loop-place.place 0 low c.requires.pins.inside)

pub loop-place-preserved : goal.loop-place-preserved
loop-place-preserved c = λ has marks.
    let l = c.loop-place in
    let ds = c.args.names.now in
    let es = map view_declared ds in
    let ss = c.args.self.now.signals.items in
    let ps = c.args.self.now.pins.items in
    let s = get_or ss l.place 0 in
    let same = c.deref-signal-items.ensures.value in
    let low = subst (λ (xs : List ℕ). l.place < length xs) same c.loop-place-test.true in
    let pin_low = subst (λ n. l.place < n) (sym c.requires.pins.each) low in
    let inside = All-get_or (λ k. k < length ds) ss l.place 0 low c.requires.pins.inside in
    let at = subst (λ (xs : List ℕ). c.index-names-signal.result ≡ get_or ds (get_or xs l.place 0) c.index-names-signal.result) same c.index-names-signal.is in
    let seen = seen_at ds s c.index-names-signal.result inside at in
    let rest = all_released es has (with_pins (drop (l.place + 1) ss) (drop (l.place + 1) ps)) in
    let one = c.in_ok-add_released.ensures ∙ ap₂ (λ x b. map view_stmt l.list.items ++ released_if x b) (sym seen) (c.level_at-is_enabled.ensures ∙ marks l.place low) in
    ap (λ xs. xs ++ rest) one
    ∙ (append_assoc (map view_stmt l.list.items) (released_if (get_or es s no_name) (has s)) rest
    ∙ (ap (λ xs. map view_stmt l.list.items ++ xs) (sym (released_next es has ss ps l.place low pin_low)) ∙ l.invariant has marks))

pub returns : goal.returns
returns c = λ has marks.
    let l = c.loop-place in
    let es = map view_declared c.args.names.now in
    let ss = c.args.self.now.signals.items in
    let ps = c.args.self.now.pins.items in
    let past = subst (λ (xs : List ℕ). length xs ≤ l.place) c.deref-signal-items.ensures.value c.loop-place-test.false in
    sym (append-nil (map view_stmt l.list.items)) ∙ (ap (λ xs. map view_stmt l.list.items ++ xs) (sym (released_past es has ss ps l.place past)) ∙ l.invariant has marks)
