-- Names in which each pin has a number are sound, and no two are one pin; nothing is refused of them.
use Rattle.std.proofs.Common.{◌≡◌, true, ap, ◌∙◌}
use Rattle.compile_phases.proofs.Common.{entries_of, view_module}
use Rattle.abel_meaning.specs.Declarations.{are_numbered}
use Rattle.compile_phases.proofs.UnrefusedNames.{memory_alone}
use Rattle.compile_phases.proofs.phases.names_of.Goals as goal

pub memory_alone-requires : goal.memory_alone-requires
memory_alone-requires g c = memory_alone g.D.Device.table (view_module c.args.placed.now) c.in-Err.fault c.requires.none c.in-Err.ensures.refused

pub returns-in-Ok-clause-ok : goal.returns-in-Ok-clause-ok
returns-in-Ok-clause-ok g c =
    let names = c.in-Ok.names in
    let numbered : are_numbered (entries_of names) ≡ true = ap are_numbered c.in-Ok.ensures.names ∙ c.requires.numbered in
    record {
      entries = c.in-Ok.ensures.names;
      accepted = c.in-Ok.ensures.accepted;
      sound = c.numbered_names.ensures.sound g.D.Device.table.name g.D.Device.table.pins names c.in-Ok.ensures.sound numbered;
      apart = c.numbered_names.ensures.apart (entries_of names) c.in-Ok.ensures.apart numbered;
      buffers = c.in-Ok.ensures.buffers;
    }
