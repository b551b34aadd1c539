-- The kinds before the first one that is refused have no refusal.
use Rattle.std.proofs.Common.{refl, sym, ◌∙◌}
use Rattle.design_checks.proofs.Common.{arena}
use Rattle.design_checks.proofs.Verdicts.{controls_pass, first_any, first_kind, first_node, kinds_pass, passed}
use Rattle.design_checks.proofs.signals.check_signals.Goals as goal

pub returns-in-Some-clause-err : goal.returns-in-Some-clause-err
returns-in-Some-clause-err g c d of = sym (first_kind g.D.Device.table c.args.scope.now _ refl d of.design c.args.found.now.list c.first_refused-kinds.ensures) ∙ c.in-Some.is

pub returns-in-Some-nodes-clause-err : goal.returns-in-Some-nodes-clause-err
returns-in-Some-nodes-clause-err g c d of =
    let t = g.D.Device.table in
    let n = c.args.scope.now in
    let cs = c.args.found.now.list in (
      passed (first_kind t n _ c.scope.ensures d of.design cs c.first_refused-kinds.ensures) c.in_default.is,
      sym (first_node t n _ c.scope.ensures d of.design cs c.registered_node-nodes.ensures) ∙ c.in-Some-nodes.is,
    )

pub returns-in-Some-controls-clause-err : goal.returns-in-Some-controls-clause-err
returns-in-Some-controls-clause-err g c d of = (
  kinds_pass g.D.Device.table c.args.scope.now _ c.scope.ensures d of.design c.args.found.now.list c.first_refused-kinds.ensures c.in_default.is c.registered_node-nodes.ensures c.in_default-nodes.is,
  sym (c.in_ok-controls.ensures d of.design of.sections) ∙ c.in-Some-controls.is,
)

pub returns-in-Some-any-clause-err : goal.returns-in-Some-any-clause-err
returns-in-Some-any-clause-err g c d of =
    let t = g.D.Device.table in
    let n = c.args.scope.now in
    let cs = c.args.found.now.list in (
      kinds_pass t n _ c.scope.ensures d of.design cs c.first_refused-kinds.ensures c.in_default.is c.registered_node-nodes.ensures c.in_default-nodes.is,
      passed (c.in_ok-controls.ensures d of.design of.sections) c.in_default-controls.is,
      sym (first_any t n _ c.scope.ensures d of.design cs c.first_refused-any.ensures) ∙ c.in-Some-any.is,
    )

pub returns-in-Some-paths-clause-err : goal.returns-in-Some-paths-clause-err
returns-in-Some-paths-clause-err g c d of =
    let t = g.D.Device.table in
    let n = c.args.scope.now in
    let cs = c.args.found.now.list in (
      kinds_pass t n _ c.scope.ensures d of.design cs c.first_refused-kinds.ensures c.in_default.is c.registered_node-nodes.ensures c.in_default-nodes.is,
      controls_pass t n _ c.scope.ensures d of.design cs (arena c.args.found.now.exprs) (c.in_ok-controls.ensures d of.design of.sections) c.in_default-controls.is c.first_refused-any.ensures c.in_default-any.is,
      sym (c.in_ok-paths.ensures d of.design of.sections) ∙ c.in-Some-paths.is,
    )

pub returns-in-None-clause-ok : goal.returns-in-None-clause-ok
returns-in-None-clause-ok g c d of =
    let t = g.D.Device.table in
    let n = c.args.scope.now in
    let cs = c.args.found.now.list in
    record {
      kinds = kinds_pass t n _ c.scope.ensures d of.design cs c.first_refused-kinds.ensures c.in_default.is c.registered_node-nodes.ensures c.in_default-nodes.is;
      uses = record {
        controls = controls_pass t n _ c.scope.ensures d of.design cs (arena c.args.found.now.exprs) (c.in_ok-controls.ensures d of.design of.sections) c.in_default-controls.is c.first_refused-any.ensures c.in_default-any.is;
        paths = passed (c.in_ok-paths.ensures d of.design of.sections) c.in-None.is;
      };
    }
