use Rattle.std.proofs.Common.{◌≡◌, ◌<◌, ◌≤◌, ◌==◌, ℕ, length, true, false, sym, ap, ◌∙◌, arith}
use Rattle.pld_device.proofs.Common.{nat_tests, length-map, get_or_from_slice_get, pair_pins, pin_carried}
use Rattle.pld_device.proofs.FirstPlaces.{place_first, place_here, place_later, place_none}
use Rattle.pld_device.proofs.lookups.pair_of_pin.Goals as goal

pub loop-pair-init : goal.loop-pair-init
loop-pair-init g c = place_first (λ (p : ℕ). p == c.args.pin) 0 (pair_pins g.D.Device.table)

pub returns-then-pin_carried-pin-clause-pair : goal.returns-then-pin_carried-pin-clause-pair
returns-then-pin_carried-pin-clause-pair g c =
    let long : length (pair_pins g.D.Device.table) ≡ length g.D.Device.table.pairs = length-map g.D.Device.table.pairs (pin_carried g.D.Device.table) in
    let within : c.loop-pair.pair < length (pair_pins g.D.Device.table) = omega (arith, long, c.loop-pair-test.true, c.columns-pair-end.ensures, g.D.Device.sound.sizes.columns_even) in
    let here = get_or_from_slice_get (pair_pins g.D.Device.table) c.loop-pair.pair c.pin_carried.result 0 c.pin_carried.ensures in
    let test : (c.pin_carried.result == c.args.pin) ≡ true = grind (arith, nat_tests, c.if-pin_carried-pin.true) in
    sym (c.loop-pair.invariant ∙ place_here (λ (p : ℕ). p == c.args.pin) 0 (pair_pins g.D.Device.table) c.loop-pair.pair within (ap (λ (p : ℕ). p == c.args.pin) here ∙ test))

pub loop-pair-preserved : goal.loop-pair-preserved
loop-pair-preserved g c =
    let long : length (pair_pins g.D.Device.table) ≡ length g.D.Device.table.pairs = length-map g.D.Device.table.pairs (pin_carried g.D.Device.table) in
    let within : c.loop-pair.pair < length (pair_pins g.D.Device.table) = omega (arith, long, c.loop-pair-test.true, c.columns-pair-end.ensures, g.D.Device.sound.sizes.columns_even) in
    let here = get_or_from_slice_get (pair_pins g.D.Device.table) c.loop-pair.pair c.pin_carried.result 0 c.pin_carried.ensures in
    let test : (c.pin_carried.result == c.args.pin) ≡ false = grind (arith, nat_tests, c.if-pin_carried-pin.false) in
    c.loop-pair.invariant ∙ place_later (λ (p : ℕ). p == c.args.pin) 0 (pair_pins g.D.Device.table) c.loop-pair.pair within (ap (λ (p : ℕ). p == c.args.pin) here ∙ test)

pub returns-clause-pair : goal.returns-clause-pair
returns-clause-pair g c =
    let long : length (pair_pins g.D.Device.table) ≡ length g.D.Device.table.pairs = length-map g.D.Device.table.pairs (pin_carried g.D.Device.table) in
    let past : length (pair_pins g.D.Device.table) ≤ c.loop-pair.pair = omega (arith, long, c.loop-pair-test.false, c.columns-pair-end.ensures, g.D.Device.sound.sizes.columns_even) in
    sym (c.loop-pair.invariant ∙ place_none (λ (p : ℕ). p == c.args.pin) 0 (pair_pins g.D.Device.table) c.loop-pair.pair past)
