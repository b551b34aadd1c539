-- The device has as many fuses in each mode.
use Rattle.std.proofs.Common.{◌∙◌}
use Rattle.form_commands.proofs.Modes.{sizes_with}
use Rattle.form_commands.proofs.dump.wrong_in_mode.Goals as goal

pub wrong_fuse_at-requires-clause-fuses : goal.wrong_fuse_at-requires-clause-fuses
wrong_fuse_at-requires-clause-fuses c = rw (c.model_by-model.ensures, c.levels.ensures) (c.requires ∙ (sizes_with c.args.name c.args.fuses.now).fuses)
