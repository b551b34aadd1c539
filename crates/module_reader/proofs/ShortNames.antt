-- The name of a module is the text of an identifier, and so keeps within the longest name.
use Rattle.std.proofs.Common.{◌≡◌, ℕ, ◌≤◌, Bool, true, false, List, length, Option, Some, None, refl, sym, ap, ◌∙◌, nat_lt}
use Rattle.std.proofs.lemmas.Bool.{ltb-false}
use Rattle.abel_lexer.specs.Kinds.{fault_if, longest_name}
use Rattle.module_reader.proofs.Common.{ScanFault}
use Rattle.module_reader.specs.Correct.{ModuleNamesAreShort}
use Rattle.module_reader.proofs.ModuleNames.{name_is_identifier}

-- if a test gives no fault it fails
no_fault : (test : Bool) (f : ScanFault) → fault_if test f ≡ None → test ≡ false
no_fault true f none = absurd cc
no_fault false f none = refl

pub name_is_short : ModuleNamesAreShort
name_is_short text m spelled =
    let identifier = name_is_identifier spelled.expanded spelled.tokens m spelled.so.0 spelled.scanned spelled.so.1 in
    ltb-false longest_name (length m.name.text) (no_fault (nat_lt longest_name (length m.name.text)) _ identifier.good)
