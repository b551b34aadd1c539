-- Every run has the same list; and these fuses and vectors are refused only for lack of memory.
use Rattle.std.proofs.Common.{◌∙◌, ap, sym}
use Rattle.jedec_reader.specs.Contents.{contents}
use Rattle.wrong_fuses.proofs.Common.{first_vector}
use Rattle.wrong_fuses.proofs.Tried.{simulates}
use Rattle.wrong_fuses.proofs.running.first_at.Goals as goal

pub unreachable-requires : goal.unreachable-requires
unreachable-requires g c =
    let t = g.D.Device.table in
    c.in_default.not-OutOfMemory (simulates t (contents t c.args.file.now) c.args.fuses.now c.args.level c.in-Err.fault c.requires.simulated c.requires.loaded c.in-Err.ensures.refused)

pub returns-in-Ok : goal.returns-in-Ok
returns-in-Ok g c list run =
    ap first_vector (c.in-Ok.ensures.run.only list run) ∙ sym (c.first_vector.ensures ∙ ap first_vector c.as_slice.ensures)
