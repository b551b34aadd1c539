-- The design of accepted names and sections is accepted.
use Rattle.compile_phases.proofs.Common.{arena, view_module, design_of}
use Rattle.design.proofs.Unlisted.{unrefused}
use Rattle.compile_phases.proofs.phases.netlist_of.Goals as goal

pub gather-requires-clause-accepted : goal.gather-requires-clause-accepted
gather-requires-clause-accepted g c =
    c.sections_are_accepted.ensures g.D.Device.table (view_module c.args.source.now) c.args.scope.now g.D.Device.sound c.requires.names
    c.requires.found.accepted

pub returns-in-Ok-clause-takeable : goal.returns-in-Ok-clause-takeable
returns-in-Ok-clause-takeable g c =
    let d = design_of g.D.Device.table (view_module c.args.source.now) in
    c.unrefused_is_takeable.ensures d (arena c.args.found.exprs) c.args.found.list g.D.Device.sound
    (c.sections_are_accepted.ensures g.D.Device.table (view_module c.args.source.now) c.args.scope.now g.D.Device.sound c.requires.names c.requires.found.accepted)
    c.requires.found.gives (unrefused d (arena c.args.found.exprs) c.args.found.list c.in-Ok.ensures.gathered.unrefused)
