-- What has a text is loaded.
use Rattle.std.proofs.Common.{inl}
use Rattle.abel_commands.proofs.Common.{contents}
use Rattle.abel_commands.proofs.decompile_command.ending_of.Goals as goal

pub returns-in-Ok : goal.returns-in-Ok
returns-in-Ok g c = inl (
  c.in-Ok.source.items,
  record {
    of = record {
      file = contents g.D.Device.table c.args.file.now;
      of = c.requires.file;
      no_loop = c.in-Ok.ensures.no_loop;
      no_path = c.in-Ok.ensures.no_path;
    };
    told = c.in-Ok.ensures.text;
    read = c.in-Ok.ensures.read;
    right = c.in-Ok.ensures.right;
  },
  c.plain.ensures,
)
