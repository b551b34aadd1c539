-- The file has each level that the device fixes, or the first fuse with another one is reported.
use Rattle.std.proofs.Common.{◌≡◌, Some, refl, ap, sym, ◌∙◌, subst}
use Rattle.devices.specs.Models.{model_by, table_at}
use Rattle.form_commands.specs.DumpLines.{WrongMode}
use Rattle.form_commands.specs.Prelude.{HasFixedLevels, Table, contents, table_of, wrong_fixed}
use Rattle.pld_base.specs.declared.device_name.DeviceName.{DeviceName}
use Rattle.form_commands.proofs.dump.in_mode.Goals as goal

pub wrong_in_mode-requires : goal.wrong_in_mode-requires
wrong_in_mode-requires g c = c.requires.fuses ∙ ap (λ (t : Table). t.fuses) (sym (ap table_of c.name.ensures ∙ c.requires.own))

pub returns-in-None : goal.returns-in-None
returns-in-None g c mends bytes says =
    let fuses = c.args.file.fuses in
    record {
      says = says;
      mode = subst (λ (name : DeviceName). HasFixedLevels (table_at (model_by name fuses)) fuses) c.name.ensures (c.in-None.ensures.none.0 refl);
    }

pub returns-in_ok-wrong_mode_line-in-Some : goal.returns-in_ok-wrong_mode_line-in-Some
returns-in_ok-wrong_mode_line-in-Some g c mends bytes says =
    let fuses = c.args.file.fuses in (
      WrongMode c.in-Some.fuse,
      record {
        how = c.args.how;
        file = contents g.D.Device.table c.args.file;
        says = says;
        first = subst (λ (name : DeviceName). wrong_fixed fuses (table_at (model_by name fuses)).fixed ≡ Some c.in-Some.fuse) c.name.ensures
            (sym c.wrong_in_mode.ensures.first ∙ c.in-Some.is);
      },
      c.in_ok-wrong_mode_line-in-Some.ensures,
    )
