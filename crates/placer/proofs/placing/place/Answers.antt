-- Nothing to place, and some signals.
use Rattle.std.proofs.Common.{◌≡◌, ◌==◌, ◌<◌, ℕ, [], List, length, map, take, sym, ap, ◌∙◌, subst}
use Rattle.placer.proofs.Common.{IfOk-weaker, Declared, view_declared, view_module, names_of, to_place}
use Rattle.placer.proofs.MadeModules.{is_none, itself, some_there}
use Rattle.placer.proofs.PlacedSignals.{followed}
use Rattle.placer.proofs.Promise.{promised}
use Rattle.placer.proofs.placing.place.Goals as goal

pub place_signals-requires-clause-names : goal.place_signals-requires-clause-names
place_signals-requires-clause-names g c = ap (map view_declared) c.as_slice-list.ensures ∙ c.requires.names

pub place_signals-requires-clause-some : goal.place_signals-requires-clause-some
place_signals-requires-clause-some g c = some_there c.in_ok-signals.signals.items (ap (λ (xs : List ℕ). length xs == 0) (sym c.as_slice.ensures.value) ∙ (sym c.is_empty.ensures ∙ c.if-is_empty.false))

pub returns-then-is_empty-clause-placed : goal.returns-then-is_empty-clause-placed
returns-then-is_empty-clause-placed g c =
    let t = g.D.Device.table in
    let m = view_module c.args.source in
    let none = is_none c.in_ok-signals.signals.items (ap (λ (xs : List ℕ). length xs == 0) (sym c.as_slice.ensures.value) ∙ (sym c.is_empty.ensures ∙ c.if-is_empty.true)) in
    let same = ap (map view_declared) c.as_slice-list.ensures ∙ c.requires.names in
    let placed = itself t m c.requires.accepted (ap (λ es. take 32 (to_place t es)) (sym same) ∙ (sym c.in_ok-signals.ensures ∙ none)) in
    placed

pub returns-then-is_empty-clause-numbered : goal.returns-then-is_empty-clause-numbered
returns-then-is_empty-clause-numbered g c =
    let t = g.D.Device.table in
    let m = view_module c.args.source in
    let none = is_none c.in_ok-signals.signals.items (ap (λ (xs : List ℕ). length xs == 0) (sym c.as_slice.ensures.value) ∙ (sym c.is_empty.ensures ∙ c.if-is_empty.true)) in
    let same = ap (map view_declared) c.as_slice-list.ensures ∙ c.requires.names in
    let placed = itself t m c.requires.accepted (ap (λ es. take 32 (to_place t es)) (sym same) ∙ (sym c.in_ok-signals.ensures ∙ none)) in
    promised t m m placed

pub returns-then-is_empty-clause-followed : goal.returns-then-is_empty-clause-followed
returns-then-is_empty-clause-followed g c =
    let t = g.D.Device.table in
    let m = view_module c.args.source in
    let none = is_none c.in_ok-signals.signals.items (ap (λ (xs : List ℕ). length xs == 0) (sym c.as_slice.ensures.value) ∙ (sym c.is_empty.ensures ∙ c.if-is_empty.true)) in
    let same = ap (map view_declared) c.as_slice-list.ensures ∙ c.requires.names in
    let placed = itself t m c.requires.accepted (ap (λ es. take 32 (to_place t es)) (sym same) ∙ (sym c.in_ok-signals.ensures ∙ none)) in
    followed t m m placed

pub returns-clause-numbered : goal.returns-clause-numbered
returns-clause-numbered g c =
    IfOk-weaker c.place_signals.result _ _ (λ m is. promised g.D.Device.table (view_module c.args.source) (view_module m) is) c.place_signals.ensures.placed

pub returns-clause-followed : goal.returns-clause-followed
returns-clause-followed g c =
    IfOk-weaker c.place_signals.result _ _ (λ m is. followed g.D.Device.table (view_module c.args.source) (view_module m) is) c.place_signals.ensures.placed
