-- The pin at the place of the name's signal.
use Rattle.std.proofs.Common.{◌≡◌, ◌<◌, None, Some, length, map, sym, ap, ◌∙◌, subst, arith, position}
use Rattle.placer.proofs.Common.{get_or_read, view_declared}
use Rattle.placer.proofs.Pinned.{is_name, pin_at_place}
use Rattle.placer.proofs.pins.PlacedPins.pin_of.Goals as goal

pub index-pin-requires : goal.index-pin-requires
index-pin-requires c =
    let low : c.in-Some.place < length c.args.self.now.signals.items = subst (λ ss. c.in-Some.place < length ss) c.as_slice.ensures.value c.in-Some.ensures.within in
    omega (arith, low, c.requires.each)

pub returns-in-Some : goal.returns-in-Some
returns-in-Some c =
    let ss = c.args.self.now.signals.items in
    let ps = c.args.self.now.pins.items in
    let test = is_name (map view_declared c.args.names.now) c.args.name.now in
    let low : c.in-Some.place < length ss = subst (λ xs. c.in-Some.place < length xs) c.as_slice.ensures.value c.in-Some.ensures.within in
    let pin_low : c.in-Some.place < length ps = omega (arith, low, c.requires.each) in
    let found = subst (λ xs. Some c.in-Some.place ≡ position test xs) c.as_slice.ensures.value c.in-Some.ensures.found in
    ap Some (get_or_read ps c.in-Some.place c.index-pin.result.now pin_low c.index-pin.ensures 0)
    ∙ pin_at_place (map view_declared c.args.names.now) c.args.name.now ss ps c.requires.each (Some c.in-Some.place) found

pub returns-in-None : goal.returns-in-None
returns-in-None c =
    let test = is_name (map view_declared c.args.names.now) c.args.name.now in
    pin_at_place (map view_declared c.args.names.now) c.args.name.now c.args.self.now.signals.items c.args.self.now.pins.items c.requires.each None
    (subst (λ xs. None ≡ position test xs) c.as_slice.ensures.value c.in-None.ensures.found)
