-- Of the module whose sections were gone through.
use Rattle.std.proofs.Common.{map, subst}
use Rattle.placer.proofs.Common.{view_declared, view_module, HasMarks, has_enable, is_read}
use Rattle.abel_tree.specs.declared.sections.Module.{Module}
use Rattle.placer.proofs.placing.ask.Goals as goal

pub returns-clause-wishes : goal.returns-clause-wishes
returns-clause-wishes g c =
    let es = map view_declared c.args.names.now in
    c.in_ok-wishes.ensures (is_read es (view_module c.args.source.now).sections)
    (subst (λ (m : Module). HasMarks c.args.signals.now (is_read es (view_module m).sections) c.in_ok-seen.seen.read) c.in_ok-parts.ensures c.in_ok-seen.ensures.read)

pub returns-clause-enabled : goal.returns-clause-enabled
returns-clause-enabled g c =
    let es = map view_declared c.args.names.now in
    subst (λ (m : Module). HasMarks c.args.signals.now (has_enable es (view_module m).sections) c.in_ok-seen.seen.enabled) c.in_ok-parts.ensures c.in_ok-seen.ensures.enabled
