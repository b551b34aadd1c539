-- What is made of the first signals is the placed module, and what is refused of them is refused of all.
use Rattle.std.proofs.Common.{◌≡◌, ◌<◌, ◌≤◌, List, ℕ, All, length, map, get_or, take, refl, sym, ap, ◌∙◌, subst, arith}
use Rattle.placer.proofs.Common.{length-map, length-take, view_declared, view_module, no_name, IsTaken, IsRefusal, HasMarks, has_enable, is_read, TellsKeptSet, AreKnown, all_released, with_pins, to_place, wish}
use Rattle.placer.proofs.MadeModules.{each_pin, names_known, placed_by, signals_inside, unplaced_is}
use Rattle.placer.proofs.placing.place_signals.Goals as goal

pub ask-requires-clause-inside : goal.ask-requires-clause-inside
ask-requires-clause-inside g c =
    let ds = c.args.names.now in
    let es = map view_declared ds in
    let t = g.D.Device.table in
    subst (λ ss. All (λ s. s < length ds) ss) (sym (c.as_slice-places.ensures.value ∙ c.requires.signals))
    (subst (λ n. All (λ s. s < n) (take 32 (to_place t es))) (length-map ds view_declared) (signals_inside t es))

pub ask-requires-clause-few : goal.ask-requires-clause-few
ask-requires-clause-few g c =
    let all = to_place g.D.Device.table (map view_declared c.args.names.now) in
    let cut = length-take 32 all in
    let same : length c.as_slice-places.result.now ≡ length (take 32 all) = ap length (c.as_slice-places.ensures.value ∙ c.requires.signals) in
    omega (arith, cut, same)

pub rebuilt-requires-clause-pins : goal.rebuilt-requires-clause-pins
rebuilt-requires-clause-pins g c =
    let t = g.D.Device.table in
    let m = view_module c.args.source in
    let ds = c.args.names.now in
    let es = map view_declared ds in
    let ss = c.args.signals.items in
    let ws = c.in_ok-asked.asked.wishes.items in
    let is = c.in_ok-asked.ensures.wishes ∙ ap (map (λ s. wish t es (is_read es m.sections s) (get_or es s no_name))) c.as_slice-places.ensures.value in
    let taken = subst (λ w. IsTaken w c.in-Ok.pins.items) c.as_slice-wishes.ensures.value c.in-Ok.ensures.taken in
    record {
      inside = subst (λ xs. All (λ s. s < length ds) xs) (sym c.requires.signals) (subst (λ n. All (λ s. s < n) (take 32 (to_place t es))) (length-map ds view_declared) (signals_inside t es));
      each = each_pin t m es c.requires.names c.requires.accepted ss ws c.requires.signals is c.in-Ok.pins.items taken;
    }

pub rebuilt-requires-clause-few : goal.rebuilt-requires-clause-few
rebuilt-requires-clause-few g c =
    let all = to_place g.D.Device.table (map view_declared c.args.names.now) in
    let cut = length-take 32 all in
    let same : length c.args.signals.items ≡ length (take 32 all) = ap length c.requires.signals in
    omega (arith, cut, same)

pub returns-in_ok-rebuilt-in-Ok-clause-placed : goal.returns-in_ok-rebuilt-in-Ok-clause-placed
returns-in_ok-rebuilt-in-Ok-clause-placed g c =
    let t = g.D.Device.table in
    let m = view_module c.args.source in
    let es = map view_declared c.args.names.now in
    let ss = c.args.signals.items in
    let ps = c.in-Ok.pins.items in
    let ws = c.in_ok-asked.asked.wishes.items in
    let is = c.in_ok-asked.ensures.wishes ∙ ap (map (λ s. wish t es (is_read es m.sections s) (get_or es s no_name))) c.as_slice-places.ensures.value in
    let taken = subst (λ w. IsTaken w ps) c.as_slice-wishes.ensures.value c.in-Ok.ensures.taken in
    let marks = subst (λ xs. HasMarks xs (has_enable es m.sections) c.in_ok-asked.asked.enabled) c.as_slice-places.ensures.value c.in_ok-asked.ensures.enabled in
    let known = subst AreKnown (sym c.requires.names) (names_known t m c.requires.accepted) in
    placed_by t m es c.requires.names c.requires.accepted ss ws c.requires.signals is g.D.Device.sound.sizes.pins_high c.requires.some ps taken
    (all_released es (has_enable es m.sections) (with_pins ss ps)) (view_module c.in_ok-rebuilt-in-Ok.rebuilt) refl (c.in_ok-rebuilt-in-Ok.ensures (has_enable es m.sections) marks known)

pub returns-in_ok-told-in-Err-clause-refused : goal.returns-in_ok-told-in-Err-clause-refused
returns-in_ok-told-in-Err-clause-refused g c =
    let t = g.D.Device.table in
    let m = view_module c.args.source in
    let es = map view_declared c.args.names.now in
    let ss = c.args.signals.items in
    let ws = c.in_ok-asked.asked.wishes.items in
    let is = c.in_ok-asked.ensures.wishes ∙ ap (map (λ s. wish t es (is_read es m.sections s) (get_or es s no_name))) c.as_slice-places.ensures.value in
    let told = subst (λ xs. TellsKeptSet xs ws c.in_ok-told-in-Err.told) c.as_slice-places.ensures.value (c.in_ok-told-in-Err.ensures ws (subst (λ w. IsRefusal w c.in-Err.fault) c.as_slice-wishes.ensures.value c.in-Err.ensures.refused)) in
    unplaced_is t m es c.requires.names c.requires.accepted ss ws c.requires.signals is c.in_ok-told-in-Err.told told
