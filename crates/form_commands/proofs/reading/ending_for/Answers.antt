-- The table is that of its name; the ending is that of what the bytes amount to.
use Rattle.std.proofs.Common.{◌≡◌, ap, subst}
use Rattle.devices.specs.DeviceLaws.{table_has_name}
use Rattle.form_commands.specs.Prelude.{Table, table_of}
use Rattle.pld_base.specs.declared.device_name.DeviceName.{DeviceName}
use Rattle.form_commands.proofs.reading.ending_for.Goals as goal

own_table : (t : Table) (name : DeviceName) → table_of name ≡ t → table_of t.name ≡ t
own_table t name is = subst (λ (u : Table). table_of u.name ≡ u) is (ap table_of (table_has_name name))

pub dump_of-requires-clause-own : goal.dump_of-requires-clause-own
dump_of-requires-clause-own g c = own_table g.D.Device.table c.args.name c.requires.table

pub file_ending-requires : goal.file_ending-requires
file_ending-requires g c = own_table g.D.Device.table c.args.name c.requires.table
