-- If a device that the project doesn't know is refused (ABEL-HDL Reference Manual, DEVICE; the place is this
-- project's rule).
use Rattle.std.specs.Prelude.{Option, None, Some, List, [], ◌∷◌}
use Rattle.decls.specs.Prelude.{Place, Word, Declaration, ADevice, ModuleTree}
use Rattle.decls.specs.AllDeclarations.{all_declarations}

-- the string of the first DEVICE declaration
abbrev pub first_string : List Declaration → Option Word
first_string [] = None
first_string (ADevice name text ∷ ds) = Some text
first_string (_ ∷ ds) = first_string ds

-- the place of that string, else this one
abbrev pub place_or : Place → Option Word → Place
place_or p None = p
place_or p (Some text) = text.place

-- the string of the first DEVICE declaration, else MODULE
abbrev pub device_place : ModuleTree → Place
device_place m = place_or m.place (first_string (all_declarations m))
