use Rattle.std.proofs.Common.{◌≡◌, Option, None, Result, Ok, length, refl, ◌∙◌}
use Rattle.fuse_compare.proofs.Common.{bits, AreKnown, HoldsRegisters, AreChosen, Difference}
use Rattle.device_logic.specs.declared.fault.SimFault.{SimFault}
use Rattle.fuse_compare.proofs.LoadedPair.{can_search, enough, plain_found, runs_found}
use Rattle.fuse_compare.proofs.comparing.compare.Goals as goal

ok_none : (found : Option Difference) (answer : Result (Option Difference) SimFault) → answer ≡ Ok found → answer ≡ Ok None → found ≡ None
ok_none found answer is none = cc

pub compared-requires : goal.compared-requires
compared-requires g c =
    let t = g.D.Device.table in
    let laws = g.D.Device.sound in
    let first = c.in_ok-first.first in
    let second = c.in_ok-second.second in
    let vars = c.in_ok-choice.choice.vars.items in
    let fixed = bits 32 c.in_ok-choice.choice.fixed in
    let chosen : AreChosen t first.fuses second.fuses vars fixed = rw (← c.array.ensures, ← c.array-2.ensures) c.in_ok-choice.ensures.chosen in
    record {
      can = can_search t laws first.fuses second.fuses c.deref.result.now vars c.deref.ensures.value fixed first.order second.order
          c.in_ok-first.ensures.ordered c.in_ok-second.ensures.ordered chosen c.in_ok-choice.ensures.once c.in_ok-cut.cut c.in_ok-cut.ensures;
      suffices = enough t laws first.fuses second.fuses c.deref.result.now vars c.deref.ensures.value fixed first.order second.order
          c.in_ok-first.ensures.ordered c.in_ok-second.ensures.ordered chosen;
    }

pub returns-clause-plain : goal.returns-clause-plain
returns-clause-plain g c =
    let t = g.D.Device.table in
    let vars = c.in_ok-choice.choice.vars.items in
    let fixed = bits 32 c.in_ok-choice.choice.fixed in
    let first = c.array.ensures ∙ c.in_ok-first.ensures.fuses in
    let second = c.array-2.ensures ∙ c.in_ok-second.ensures.fuses in
    let known : AreKnown t c.args.a.now c.args.b.now vars = rw (← first, ← second) c.in_ok-choice.ensures.known in
    let registers : HoldsRegisters t c.args.a.now c.args.b.now (length t.cells) fixed = rw (← first, ← second) c.in_ok-choice.ensures.fixed in
    plain_found t g.D.Device.sound c.args.a.now c.args.b.now c.deref.result.now vars c.deref.ensures.value fixed known registers c.compared.result c.compared.ensures.state

pub returns-clause-runs : goal.returns-clause-runs
returns-clause-runs g c = λ none.
    runs_found g.D.Device.table g.D.Device.sound c.args.a.now c.args.b.now c.compared.result
    (rw (← c.in_ok-first.ensures.logic, ← c.in_ok-second.ensures.logic) c.compared.ensures.found)
    c.in_ok-second.ensures.determined (ok_none c.compared.result (Ok c.compared.result) refl none)
