use Rattle.std.proofs.Common.{rules, ◌≡◌, ◌∙◌}
use Rattle.jedec_writer.proofs.ControlEnds.{four_ends, four_parts, control_inside}
use Rattle.jedec_writer.proofs.control.control_end.Goals as goal

pub returns-clause-last : goal.returns-clause-last
returns-clause-last g c =
    let t = g.D.Device.table in
    let all : c.max-3.result ≡ four_ends t = search rules in
    all ∙ four_parts t

pub returns-clause-inside : goal.returns-clause-inside
returns-clause-inside g c = rw (returns-clause-last g c) (control_inside g.D.Device.table g.D.Device.sound)
