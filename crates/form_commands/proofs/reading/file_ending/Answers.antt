-- The bytes are read alike in the mode that the fuses say.
use Rattle.std.proofs.Common.{◌∙◌, inl, refl}
use Rattle.form_commands.proofs.Modes.{with_read}
use Rattle.form_commands.specs.Prelude.{contents}
use Rattle.form_commands.proofs.reading.file_ending.Goals as goal

pub returns : goal.returns
returns g c mends bytes dump =
    let t = g.D.Device.table in
    let file = contents t c.args.file.now in
    let out = c.in-Some.bytes.items in
    let says = rw c.in-Some.is at c.in_ok-bytes.ensures in
    inl (
      out,
      c.in_ok-dump_report.field-0.items,
      record {
        how = c.args.how.now;
        file = file;
        dump = dump;
        is = record { within = says.within; read = with_read t c.requires file.fuses out ∙ says.read; mode = dump.mode };
        told = c.in_ok-dump_report.ensures;
      },
      refl,
    )
