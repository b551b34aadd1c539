-- From no name on.
use Rattle.std.proofs.Common.{◌∙◌}
use Rattle.decls.proofs.Common.{way}
use Rattle.decls.proofs.LeftOut.{starts}
use Rattle.decls.proofs.walk.pass_over.Goals as goal

pub returns : goal.returns
returns g c =
    let t = g.D.Device.table in
    c.in_ok-read_module.ensures (way t c.args.skips)
    (starts t c.args.skips _ (c.empty_table.ensures t (c.pins.ensures) (c.ground.ensures)))
