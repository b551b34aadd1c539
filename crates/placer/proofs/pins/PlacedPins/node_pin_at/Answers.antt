-- Its signal is what the definitions see.
use Rattle.std.proofs.Common.{◌≡◌, ◌<◌, None, Some, if◌then◌else◌, length, map, get_or, sym, ap, ◌∙◌, subst, arith}
use Rattle.placer.proofs.Common.{get_or_read, All-get_or, Entry, view_declared, no_name, is_node}
use Rattle.placer.proofs.DeclaredAt.{seen_at}
use Rattle.placer.proofs.pins.PlacedPins.node_pin_at.Goals as goal

pub index-pin-requires : goal.index-pin-requires
index-pin-requires c = omega (arith, c.requires.inside, c.requires.pins.each)

pub bounds-names-signal : goal.bounds-names-signal
bounds-names-signal c =
    let ss = c.args.self.now.signals.items in
    subst (λ s. s < length c.args.names.now) (sym (get_or_read ss c.args.place c.index-signal.result.now c.requires.inside c.index-signal.ensures 0))
    (All-get_or (λ s. s < length c.args.names.now) ss c.args.place 0 c.requires.inside c.requires.pins.inside)

pub returns-then-is_node : goal.returns-then-is_node
returns-then-is_node c =
    let ds = c.args.names.now in
    let ss = c.args.self.now.signals.items in
    let ps = c.args.self.now.pins.items in
    let signal = sym (get_or_read ss c.args.place c.index-signal.result.now c.requires.inside c.index-signal.ensures 0) in
    let pin_low : c.args.place < length ps = omega (arith, c.requires.inside, c.requires.pins.each) in
    let low = subst (λ s. s < length ds) signal (All-get_or (λ s. s < length ds) ss c.args.place 0 c.requires.inside c.requires.pins.inside) in
    let seen = seen_at ds c.index-signal.result.now c.index-names-signal.result low c.index-names-signal.is in
    let node = ap (λ s. is_node (get_or (map view_declared ds) s no_name).kind) signal ∙ (ap (λ (e : Entry). is_node e.kind) seen ∙ (sym c.is_node.ensures ∙ c.if-is_node.true)) in
    ap Some (get_or_read ps c.args.place c.index-pin.result.now pin_low c.index-pin.ensures 0) ∙ sym (ap (λ b. if b then Some (get_or ps c.args.place 0) else None) node)

pub returns-else-is_node : goal.returns-else-is_node
returns-else-is_node c =
    let ds = c.args.names.now in
    let ss = c.args.self.now.signals.items in
    let ps = c.args.self.now.pins.items in
    let signal = sym (get_or_read ss c.args.place c.index-signal.result.now c.requires.inside c.index-signal.ensures 0) in
    let low = subst (λ s. s < length ds) signal (All-get_or (λ s. s < length ds) ss c.args.place 0 c.requires.inside c.requires.pins.inside) in
    let seen = seen_at ds c.index-signal.result.now c.index-names-signal.result low c.index-names-signal.is in
    let other = ap (λ s. is_node (get_or (map view_declared ds) s no_name).kind) signal ∙ (ap (λ (e : Entry). is_node e.kind) seen ∙ (sym c.is_node.ensures ∙ c.if-is_node.false)) in
    sym (ap (λ b. if b then Some (get_or ps c.args.place 0) else None) other)
