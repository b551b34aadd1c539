-- One item more, or the rest is left out.
use Rattle.std.proofs.Common.{◌≡◌, true, false, fold, take, drop, map, refl, subst, sym, ap, ◌∙◌}
use Rattle.decls.proofs.Common.{take_rest, given_names, Pass, Adds, Follows, items_behind, Shows, view_given, view_said, node_step}
use Rattle.decls.proofs.FirstNumbers.{nodes_more, nodes_rest}
use Rattle.decls.proofs.Added.{adds_nodes}
use Rattle.decls.proofs.LeftOut.{goes_on}
use Rattle.decls.proofs.pass.Pass.enter_node_items.Goals as goal

pub returns-then-stops_at_items : goal.returns-then-stops_at_items
returns-then-stops_at_items c = λ w s k f.
    let l = c.loop-place in
    let o = l.self.table.fault in
    let names = c.args.names.now in
    let said = view_said c.args.said in
    let m = fold (node_step said) s (given_names (take l.place names)) in
    c.stops_at_items.ensures.stops c.if-stops_at_items.true w m (fold (node_step said) s (given_names names))
    (λ h. subst (Adds o m) (nodes_rest said names l.place s) (adds_nodes o said (drop l.place names) m (subst (λ xs. items_behind o xs ≡ true) (take_rest names l.place) h)))
    (l.invariant.follows w s k f)

pub loop-place-preserved : goal.loop-place-preserved
loop-place-preserved c =
    let l = c.loop-place in
    let same = c.stops_at_items.ensures.goes c.if-stops_at_items.false in
    record {
      whole = ap (λ (x : Pass). x.skipped) same ∙ l.invariant.whole;
      follows = λ w s k f.
          let d = c.stops_at_items.new.self in
          let names = c.args.names.now in
          let said = view_said c.args.said in
          let m = fold (node_step said) s (given_names (take l.place names)) in
          let fd : Follows w d m = subst (λ x. Follows w x m) (sym same) (l.invariant.follows w s k f) in
          let kd : d.skipped ≡ false = ap (λ (x : Pass). x.skipped) same ∙ (l.invariant.whole ∙ k) in
          goes_on w d (record d { table = c.enter_nodes.new.self }) m _ refl kd
          (subst (Shows w.table c.enter_nodes.new.self)
          (ap (λ xs. fold (node_step said) m (map view_given xs)) c.as_slice.ensures.value
          ∙ (ap (fold (node_step said) m) c.in_ok-given.ensures
          ∙ nodes_more said names l.place c.index-names-place.result s c.loop-place-test.true c.index-names-place.is))
          (c.in_ok-enter_nodes.ensures w.table m (fd.shown kd))) fd;
    }
