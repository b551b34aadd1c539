-- The vectors so far.
use Rattle.std.proofs.Common.{◌≡◌, flat_map, take}
use Rattle.jedec_file.specs.TestVectors.{all_chars}
use Rattle.page_model.specs.Phases.{phases}
use Rattle.page_model.proofs.phases.phases_of.Given as goal

abbrev pub invariant-loop-vector : goal.invariant-loop-vector
invariant-loop-vector g l =
    all_chars g.D.Device.table l.list.items ≡ flat_map phases (all_chars g.D.Device.table (take l.vector-index l.vectors))
