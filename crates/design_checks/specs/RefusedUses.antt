-- Which uses a device can't follow: an extension that the signal doesn't have, and what no column carries (the devices'
-- datasheets, macrocell diagrams; what is refused is this project's rule).
use Rattle.std.specs.Prelude.{Bool, true, false, not, ◌&&◌, Option, None, Some, is_some, is_none, List, filter}
use Rattle.design_checks.specs.Prelude.{Table, Extension, Kind, APin, ANode, Entry, is_stored, Context, Design, name_at}
use Rattle.abel_meaning.specs.SignalPins.{has_read_path}
use Rattle.abel_tree.specs.declared.words.Extension.TheVariants as extension
use Rattle.design_checks.specs.declared.rule.UseRule.{UseRule}
use Rattle.design_checks.specs.declared.rule.UseRule.TheVariants as use_rule
use Rattle.design_checks.specs.LocatedUses.{PlacedUse}
use Rattle.design_checks.specs.SectionUses.{design_uses}

-- ---- extensions that a signal doesn't have

-- a combinational signal is read by its pin alone; it has an enable, which can't be read
abbrev pub pin_has : Option Extension → Bool
pin_has None = true
pin_has (Some extension.Pin) = true
pin_has (Some extension.Oe) = true
pin_has (Some _) = false

-- a register has all but the controls that the device lacks
abbrev pub register_has : Table → Option Extension → Bool
register_has t (Some extension.Ar) = is_some t.reset
register_has t (Some extension.Sp) = is_some t.preset
register_has t _ = true

-- a node has its value alone
abbrev pub has_by : Table → (stored : Bool) → Kind → Option Extension → Bool
has_by t true (APin pin negated) e = register_has t e
has_by t false (APin pin negated) e = pin_has e
has_by t stored (ANode n) e = is_none e
has_by t stored _ e = true

abbrev pub has_extension : Table → Entry → Option Extension → Bool
has_extension t x e = has_by t (is_stored x) x.kind e

-- ---- uses that are refused

-- a rule refuses that a signal is read with an extension: that it doesn't have it, or that it has it, and no column
-- carries it
abbrev pub refuses_use : Table → UseRule → Entry → Option Extension → Bool
refuses_use t use_rule.Extensions x e = not (has_extension t x e)
refuses_use t use_rule.Columns x e = not (not (has_extension t x e)) && not (has_read_path t x e)

abbrev pub is_refused : UseRule → Context → PlacedUse → Bool
is_refused r d u = refuses_use d.device r (name_at d u.read.signal) u.read.extension

abbrev pub refused_uses : UseRule → Design → List PlacedUse
refused_uses r d = filter (is_refused r d.context) (design_uses d)

-- NoSuchControl: the signal doesn't have the extension
abbrev pub is_missing : Context → PlacedUse → Bool
is_missing d u = is_refused use_rule.Extensions d u

-- NoReadPath: it has it, and no column carries it
abbrev pub is_unread : Context → PlacedUse → Bool
is_unread d u = is_refused use_rule.Columns d u

abbrev pub missing_uses : Design → List PlacedUse
missing_uses d = refused_uses use_rule.Extensions d

abbrev pub unread_uses : Design → List PlacedUse
unread_uses d = refused_uses use_rule.Columns d
