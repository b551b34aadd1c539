use Rattle.jedec_reader.specs.Contents.{contents}
use Rattle.wrong_fuses.proofs.Common.{device_determined, MeanSame}
use Rattle.wrong_fuses.proofs.SameMeaning.{alike_same}
use Rattle.wrong_fuses.proofs.Tried.{can_be_loaded}
use Rattle.wrong_fuses.proofs.judging.verdict_of.Goals as goal

pub returns-then-mean_same : goal.returns-then-mean_same
returns-then-mean_same g c =
    let t = g.D.Device.table in
    let laws = g.D.Device.sound in
    let same : MeanSame t c.args.file.now.fuses c.args.wrong.now = rw (← c.requires.right, ← c.requires.chip) (c.mean_same.ensures c.if-mean_same.true) in
    (c.requires.loaded, alike_same t laws c.args.file.now.fuses c.args.wrong.now same (device_determined t c.args.wrong.now laws c.requires.loaded.no_loop c.requires.loaded.no_path).rests)

pub unfound-requires-clause-right_loaded : goal.unfound-requires-clause-right_loaded
unfound-requires-clause-right_loaded g c = let t = g.D.Device.table in can_be_loaded t (contents t c.args.file.now) c.requires.simulated
