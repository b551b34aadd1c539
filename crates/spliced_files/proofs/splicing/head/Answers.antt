use Rattle.std.proofs.Common.{◌≡◌, ◌-◌, length, take, ap, ◌∙◌, arith}
use Rattle.spliced_files.proofs.SplicedFile.{canonical_long, head_is}
use Rattle.spliced_files.proofs.splicing.head.Goals as goal

pub returns : goal.returns
returns g c =
    let t = g.T.Device.table in
    let long = canonical_long t c.args.name.now c.args.fuses.now in
    c.truncate.ensures.items
    ∙ (ap (take (c.len.result - 5)) c.in_ok-file.ensures.canonical
    ∙ head_is t c.args.name.now c.args.fuses.now (c.len.result - 5) (omega (arith, long, c.len.ensures, ap length c.in_ok-file.ensures.canonical)))
