use Rattle.std.proofs.Common.{◌≡◌, suc, ◌+◌, ◌∷◌, map, drop, sym, ap, subst, ◌∙◌, arith}
use Rattle.gathering.proofs.Common.{drop_all, arena, view_declared, Asks, AsksBefore}
use Rattle.std.proofs.Math.Seq.{drop-cons}
use Rattle.gathering.proofs.Pushed.{none_asked, all_asked}
use Rattle.gathering.proofs.Standing.{stands_same, stands_on}
use Rattle.gathering.proofs.netlist.ask_all.Goals as goal

pub loop-number-init : goal.loop-number-init
loop-number-init g c = record {
  asks = λ last behind. none_asked g.D.Device.table (arena c.args.exprs.now) last c.args.list.now (map view_declared c.as_slice-declared-items.result.now) _ (cc) (cc) (cc) (cc);
  stands = stands_same (arena c.args.exprs.now);
}

pub loop-number-preserved : goal.loop-number-preserved
loop-number-preserved g c =
    let t = g.D.Device.table in
    let list = c.args.list.now in
    let ds = c.as_slice-declared-items.result.now in
    let i = c.loop-number.number in
    let first = arena c.args.exprs.now in
    let old = arena c.loop-number.exprs in
    let next : suc i ≡ i + 1 = omega arith in
    let here : drop i ds ≡ c.declared-item.result ∷ drop (i + 1) ds = drop-cons ds i c.declared-item.result c.loop-number-test.true ∙ ap (λ x. x ∷ drop (suc i) ds) (sym c.declared-item.is) ∙ ap (λ n. c.declared-item.result ∷ drop n ds) next in
    record {
      asks = λ last behind.
          subst (λ n. AsksBefore t first last list (map view_declared ds) n (map view_declared (drop (i + 1) ds)) c.ask.new.asked) (omega arith)
          (c.in_ok-ask.ensures.asks first last c.loop-number.invariant.stands c.requires behind (map view_declared ds) (map view_declared (drop (i + 1) ds))
          (subst (λ ys. AsksBefore t first last list (map view_declared ds) c.loop-number.number (map view_declared ys) c.loop-number.asked) here
          (c.loop-number.invariant.asks last (stands_on old (arena c.ask.new.exprs) last c.in_ok-ask.ensures.stands behind))));
      stands = stands_on first old (arena c.ask.new.exprs) c.loop-number.invariant.stands c.in_ok-ask.ensures.stands;
    }

pub returns : goal.returns
returns g c =
    let first = arena c.args.exprs.now in
    let now = arena c.loop-number.exprs in
    subst (λ ds. Asks g.D.Device.table first now c.args.list.now (map view_declared ds) c.loop-number.asked) c.as_slice-declared-items.ensures
    (all_asked g.D.Device.table first now c.args.list.now (map view_declared c.as_slice-declared-items.result.now) c.loop-number.number c.loop-number.asked
    (subst (λ ys. AsksBefore g.D.Device.table first now c.args.list.now (map view_declared c.as_slice-declared-items.result.now) c.loop-number.number (map view_declared ys) c.loop-number.asked)
    (drop_all c.loop-number.number c.as_slice-declared-items.result.now c.loop-number-test.false) (c.loop-number.invariant.asks now (stands_same now))))
