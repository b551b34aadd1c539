-- The device of the name GAL22V10 has its table.
use Rattle.std.proofs.Common.{◌≡◌, IfOk, ap, sym, ◌∙◌, subst}
use Rattle.form_commands.proofs.Refused.{no_dump}
use Rattle.form_commands.specs.Dumps.{IsDumped, IsUnreadFile}
use Rattle.form_commands.specs.Prelude.{Table, gal22v10, table_of}
use Rattle.pld_base.specs.declared.device_name.DeviceName.{DeviceName}
use Rattle.pld_base.specs.declared.device_name.DeviceName.TheVariants.{GAL22V10}
use Rattle.form_commands.proofs.taking.unrepaired_dump.Goals as goal

-- a table is that of its name
named : (t : Table) (name : DeviceName) → table_of t.name ≡ t → name ≡ t.name → name ≡ GAL22V10 → gal22v10 ≡ t
named t name own is same = ap table_of (sym same ∙ is) ∙ own

pub longer_or_refused-requires-clause-unread : goal.longer_or_refused-requires-clause-unread
longer_or_refused-requires-clause-unread g c =
    subst (λ (t : Table). IsUnreadFile t c.args.bytes.now c.args.line.items) (sym (named g.D.Device.table c.name.result c.requires.own c.name.ensures c.in-GAL22V10.is)) c.requires.unread

pub returns-in-GAL22V10 : goal.returns-in-GAL22V10
returns-in-GAL22V10 g c =
    subst (λ (t : Table). IfOk c.longer_or_refused.result (IsDumped t c.args.mends c.args.bytes.now)) (named g.D.Device.table c.name.result c.requires.own c.name.ensures c.in-GAL22V10.is) c.longer_or_refused.ensures

pub returns-in_default : goal.returns-in_default
returns-in_default g c = no_dump g.D.Device.table c.args.mends c.args.bytes.now c.args.line.items c.requires.text c.requires.unread
