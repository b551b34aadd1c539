use Rattle.jedec_reader.specs.Contents.{contents}
use Rattle.fuse_porting.proofs.PortedFiles.{all_named, never_refused, port_is}
use Rattle.fuse_porting.proofs.whole_file.ported_file.Goals as goal

pub spliced-requires-clause-lines : goal.spliced-requires-clause-lines
spliced-requires-clause-lines g c = all_named g.T.Device.table c.in_ok-fuses.fuses c.requires.pair.named c.in_ok-fuses.ensures.carried.size

pub returns-in-Ok-clause-ported : goal.returns-in-Ok-clause-ported
returns-in-Ok-clause-ported g c =
    let f = g.F.Device.table in
    port_is f g.T.Device.table c.args.bytes.now (contents f c.args.file.now) c.in_ok-fuses.fuses c.in-Ok.out.items
    c.in_ok-fuses.ensures.carried c.in_ok-fuses.ensures.same
    (c.in-Ok.ensures.reads c.requires.pair.array.pins (contents f c.args.file.now) c.requires.read) c.in-Ok.ensures.gives

pub unreachable-requires : goal.unreachable-requires
unreachable-requires g c =
    let f = g.F.Device.table in
    c.in_default.not-OutOfMemory (never_refused f g.T.Device.table c.in_ok-fuses.fuses c.args.bytes.now (contents f c.args.file.now) c.in-Err.fault c.requires.read c.in-Err.ensures.gives)
