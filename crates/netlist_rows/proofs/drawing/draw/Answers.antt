-- The design of sound names and accepted sections is accepted.
use Rattle.netlist_rows.proofs.Common.{view_module}
use Rattle.netlist_rows.proofs.drawing.draw.Goals as goal

pub returns-clause-drawn : goal.returns-clause-drawn
returns-clause-drawn g c =
    let names = c.in_ok-names.ensures in
    let m = view_module c.args.source in
    let accepted = c.names_are_accepted.ensures g.D.Device.table m c.in_ok-names.names names.entries names.sound names.apart names.buffers in
    let found = c.in_ok-contributions.ensures.found.contributed in
    record {
      sound = names.sound;
      names = names.entries;
      accepted = c.sound_modules_are_accepted.ensures g.D.Device.table m (record { pins = accepted.pins; nodes = accepted.nodes; buffers = accepted.buffers }) found.accepted;
      gives = found.gives;
      inside = found.inside;
    }
