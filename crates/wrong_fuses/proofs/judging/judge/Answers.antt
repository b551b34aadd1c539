-- The file's vectors are simulated with its own fuses, which are therefore loaded.
use Rattle.std.proofs.Common.{false, subst, sym}
use Rattle.jedec_reader.specs.Contents.{contents}
use Rattle.wrong_fuses.proofs.Common.{AreJudged, tried}
use Rattle.wrong_fuses.proofs.Passed.{shows_the_right}
use Rattle.wrong_fuses.proofs.Tried.{can_be_loaded, tried_can}
use Rattle.wrong_fuses.proofs.judging.judge.Goals as goal

pub judge_all-requires-clause-simulated : goal.judge_all-requires-clause-simulated
judge_all-requires-clause-simulated g c = let t = g.D.Device.table in tried_can t (contents t c.args.file.now) false c.in_ok-low.ensures.can

pub returns-clause-passed : goal.returns-clause-passed
returns-clause-passed g c =
    let t = g.D.Device.table in
    let file = contents t c.args.file.now in
    shows_the_right t g.D.Device.sound file (can_be_loaded t (tried file file.fuses false) c.in_ok-low.ensures.can) c.from_vec.result
    (subst (AreJudged t file) (sym c.from_vec.ensures) c.in_ok-judged.ensures)
