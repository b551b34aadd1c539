-- One item more, or the rest is left out.
use Rattle.std.proofs.Common.{◌≡◌, true, false, fold, take, drop, length, map, refl, subst, sym, ap, ap₂, ◌∙◌, arith}
use Rattle.decls.proofs.Common.{take_rest, length-map, item_names, given_names, Pass, Adds, Follows, items_behind, Shows, given_by, view_given, view_said, pin_step, with_numbers}
use Rattle.decls.proofs.FirstNumbers.{drop_twice, enough_for, longer_by, numbers_enough, pins_more, pins_rest}
use Rattle.decls.proofs.Added.{adds_pins}
use Rattle.decls.proofs.LeftOut.{goes_on}
use Rattle.decls.proofs.pass.Pass.enter_pin_items.Goals as goal

pub returns-then-stops_at_items : goal.returns-then-stops_at_items
returns-then-stops_at_items c = λ w s ns hn k f.
    let l = c.loop-place in
    let o = l.self.table.fault in
    let names = c.args.names.now in
    let said = view_said c.args.said in
    let before = given_names (take l.place names) in
    let m = fold (pin_step w.table said) s (with_numbers before ns) in
    c.stops_at_items.ensures.stops c.if-stops_at_items.true w m (fold (pin_step w.table said) s (with_numbers (given_names names) ns))
    (λ h. subst (Adds o m) (pins_rest w.table said names l.place ns s) (adds_pins o w.table said (drop l.place names) (drop (length before) ns) m (subst (λ xs. items_behind o xs ≡ true) (take_rest names l.place) h)))
    (l.invariant.follows w s ns hn k f)

pub returns-then-is_short : goal.returns-then-is_short
returns-then-is_short c = λ w s ns hn k f.
    let l = c.loop-place in
    let same = c.stops_at_items.ensures.goes c.if-stops_at_items.false in
    let said = view_said c.args.said in
    let m = fold (pin_step w.table said) s (with_numbers (given_names (take l.place c.args.names.now)) ns) in
    c.is_short.ensures.lost c.if-is_short.true w m (fold (pin_step w.table said) s (with_numbers (given_names c.args.names.now) ns))
    (subst (λ x. Follows w x m) (sym same) (l.invariant.follows w s ns hn k f))

pub loop-place-preserved : goal.loop-place-preserved
loop-place-preserved c =
    let l = c.loop-place in
    let names = c.args.names.now in
    let i = c.index-names-place.result in
    let here = map (given_by i) (item_names i) in
    let o = length (given_names (take l.place names)) in
    let same = c.is_short.ensures.goes c.if-is_short.false ∙ c.stops_at_items.ensures.goes c.if-stops_at_items.false in
    let size : length c.in_ok-given.given.items ≡ length here = sym (length-map c.in_ok-given.given.items view_given) ∙ ap length c.in_ok-given.ensures in
    let more = longer_by names l.place i c.loop-place-test.true c.index-names-place.is in
    record {
      whole = ap (λ (x : Pass). x.skipped) same ∙ l.invariant.whole;
      left = omega (arith, c.saturating_sub-left.ensures, l.invariant.left, more, size, ap length c.as_slice-in-loop-place-2.ensures.value);
      rest =
          c.numbers_after-rest.ensures
          ∙ (ap₂ (λ n xs. drop n xs) (ap length c.as_slice-in-loop-place-3.ensures.value ∙ size) l.invariant.rest
          ∙ (drop_twice o (length here) c.args.numbers.now.list.items ∙ ap (λ n. drop n c.args.numbers.now.list.items) (sym more)));
      follows = λ w s ns hn k f.
          let d = c.is_short.new.self in
          let said = view_said c.args.said in
          let step = pin_step w.table said in
          let m = fold step s (with_numbers (given_names (take l.place names)) ns) in
          let fl = l.invariant.follows w s ns hn k f in
          let fd : Follows w d m = subst (λ x. Follows w x m) (sym same) fl in
          let kd : d.skipped ≡ false = ap (λ (x : Pass). x.skipped) same ∙ (l.invariant.whole ∙ k) in
          let skips = ap (λ (x : Pass). x.skips) (c.stops_at_items.ensures.goes c.if-stops_at_items.false) ∙ fl.skips in
          let enough = enough_for w.skips l.left c.stops_at_items.new.self.skips (length c.as_slice.result.now) (length here) skips (ap length c.as_slice.ensures.value ∙ size) (c.is_short.ensures.enough c.if-is_short.false) in
          goes_on w d (record d { table = c.enter_pins.new.self }) m _ refl kd
          (subst (Shows w.table c.enter_pins.new.self)
          (ap₂ (λ xs r. fold step m (with_numbers xs r)) (ap (map view_given) c.as_slice-in-loop-place.ensures.value ∙ c.in_ok-given.ensures) l.invariant.rest
          ∙ pins_more w.table said names l.place i ns (drop o c.args.numbers.now.list.items) s c.loop-place-test.true c.index-names-place.is
          (numbers_enough w.skips c.args.numbers.now.room c.args.numbers.now.list.items ns o l.left here hn l.invariant.left enough))
          (c.in_ok-enter_pins.ensures w.table m (fd.shown kd))) fd;
    }
