-- The first fuse with another level is reported.
use Rattle.std.proofs.Common.{sym, ◌∙◌}
use Rattle.fuse_reports.proofs.Common.{contents, WrongMode}
use Rattle.fuse_reports.proofs.taken.in_mode.Goals as goal

pub returns-in_ok-wrong_mode_line-in-Some : goal.returns-in_ok-wrong_mode_line-in-Some
returns-in_ok-wrong_mode_line-in-Some g c = (
  WrongMode c.in-Some.fuse,
  record {
    within = c.requires.within;
    file = contents g.D.Device.table c.args.file;
    read = c.requires.read;
    first = sym c.wrong_fuse.ensures.first ∙ c.in-Some.is;
  },
  c.in_ok-wrong_mode_line-in-Some.ensures,
)
