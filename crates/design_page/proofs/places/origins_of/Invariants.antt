-- So many bytes may still be given.
use Rattle.std.proofs.Common.{◌-◌}
use Rattle.design_page.proofs.places.origins_of.Given as goal

abbrev pub decreases-bytes : goal.decreases-bytes
decreases-bytes l = 1048577 - l.reader.given
