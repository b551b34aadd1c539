use Rattle.std.proofs.Common.{◌≡◌, true, ◌++◌, ◌∷◌, [], refl, ap, sym, ◌∙◌, is_some, not}
use Rattle.gathering.proofs.Common.{true≢false, arena, view_declared, is_node_kind}
use Rattle.gathering.proofs.Pushed.{asks_node, asks_cell}
use Rattle.gathering.proofs.Standing.{stands_same}
use Rattle.gathering.proofs.asked.ask.Goals.{else-is_none-via-then-is_none+else-not-is_node, else-is_none-via-else-is_none}
use Rattle.gathering.proofs.asked.ask.Goals as goal

pub link_of-requires : goal.link_of-requires
link_of-requires g c =
    let new = arena c.sum_up.new.exprs in
    let given = c.in_ok-totals.ensures.given (arena c.args.exprs.now) new (stands_same (arena c.args.exprs.now)) c.requires (stands_same new) in
    record { function = given.function.inside; enable = given.enable.inside }

pub returns-in_ok-push-in-Some-clause-asks : goal.returns-in_ok-push-in-Some-clause-asks
returns-in_ok-push-in-Some-clause-asks g c = λ first last before lie behind xs left asks.
    let new = arena c.sum_up.new.exprs in
    let list = c.args.list.now in
    let s = c.args.named.now.number in
    let given = c.in_ok-totals.ensures.given first in
    asks_cell g.D.Device.table first last list xs left (view_declared c.args.named.now.declared.now) c.args.asked.now s asks
    c.in_ok-totals.totals (given last before lie behind) c.link_of.result (λ d on. c.link_of.ensures d first list s on (given new before lie (stands_same new)))
    (record { nodes = c.args.asked.now.nodes; cells = c.push-in-Some.new.self; signals = c.push-2.new.self; links = c.push.new.self }) c.in_ok-push-2.ensures.items c.in_ok-push.ensures.items
    c.in-Some.cell refl (c.in_ok-push-in-Some.ensures.items ∙ ap (λ w. c.args.asked.now.cells.items ++ w ∷ []) c.asked_cell.ensures) (sym c.cell_of-cell.ensures.cell ∙ c.in-Some.is)

pub returns-in_ok-push-in-None-clause-asks : goal.returns-in_ok-push-in-None-clause-asks
returns-in_ok-push-in-None-clause-asks g c = λ first last before lie behind xs left asks.
    let new = arena c.sum_up.new.exprs in
    let list = c.args.list.now in
    let s = c.args.named.now.number in
    let x = view_declared c.args.named.now.declared.now in
    let given = c.in_ok-totals.ensures.given first in
    let node : is_node_kind x.kind ≡ true = elim c.else-is_none.branch [
      | else-is_none-via-then-is_none+else-not-is_node w ↦ sym w.is_node.ensures ∙ w.if-not-is_node.false
      | else-is_none-via-else-is_none w ↦ absurd (true≢false (sym (ap not w.if-is_none.false) ∙ sym c.is_none.ensures ∙ ap is_some c.in-None.is))
    ] in
    asks_node g.D.Device.table first last list xs left x c.args.asked.now s asks
    c.in_ok-totals.totals (given last before lie behind) c.link_of.result (λ d on. c.link_of.ensures d first list s on (given new before lie (stands_same new)))
    (record { nodes = c.push-in-None.new.self; cells = c.args.asked.now.cells; signals = c.push-2.new.self; links = c.push.new.self }) c.in_ok-push-2.ensures.items c.in_ok-push.ensures.items
    c.in_ok-push-in-None.ensures.items refl node
