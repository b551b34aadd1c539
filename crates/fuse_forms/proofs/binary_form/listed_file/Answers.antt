-- There is a level for each fuse.
use Rattle.std.proofs.Common.{◌∙◌}
use Rattle.std.proofs.lemmas.List.FromFn.{length-map-range_with_len}
use Rattle.fuse_forms.specs.Binary.{level_in}
use Rattle.fuse_forms.proofs.binary_form.listed_file.Goals as goal

pub returns-clause-fuses : goal.returns-clause-fuses
returns-clause-fuses g c =
    rw (c.from_levels.ensures, c.in_ok-levels.ensures) (length-map-range_with_len (level_in c.args.bytes.now c.args.listed) 0 c.fuses.result ∙ c.fuses.ensures)
