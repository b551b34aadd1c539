-- The design that a module describes for a device (ABEL-HDL Reference Manual, declarations and directives).
use Rattle.std.specs.Prelude.{ℕ, Bool, false, List, [], ◌∷◌, get_or}
use Rattle.abel_meaning.specs.Prelude.{Table, ADeviceName, Entry, Declaration, DontCareFor, SectionTree, ModuleTree}
use Rattle.abel_meaning.specs.Declarations.{no_words}
use Rattle.abel_meaning.specs.Kinds.{names_of}
use Rattle.abel_meaning.specs.Terms.{Known, known_of}

-- what the expressions of a source are over: a device, the names that are declared, and what these represent
pub record Context : Type 0 where
  pub device : Table
  pub names : List Entry
  pub known : List Known

-- names for a device
abbrev pub context_of : Table → List Entry → Context
context_of t names = record { device = t; names = names; known = known_of names }

-- a module for a device: its names, whether `@DCSET` is in force before its sections, and these
pub record Design : Type 0 where
  pub context : Context
  pub starts_dontcare : Bool
  pub sections : List SectionTree

-- whether `@DCSET` is in force after these declarations
abbrev pub after_declarations : Bool → List Declaration → Bool
after_declarations on [] = on
after_declarations on (DontCareFor directive ∷ ds) = after_declarations directive.on ds
after_declarations on (_ ∷ ds) = after_declarations on ds

-- the design of a module whose names are these
abbrev pub design_for : Table → List Entry → ModuleTree → Design
design_for t names m =
    record {
      context = context_of t names;
      starts_dontcare = after_declarations false m.decls;
      sections = m.sections;
    }

-- the design of a module
abbrev pub design_of : Table → ModuleTree → Design
design_of t m = design_for t (names_of t m) m

-- what represents a name past the last one
abbrev pub no_name : Entry
no_name = record { name = []; place = record { line = 0; column = 0 }; kind = ADeviceName; words = no_words; assigned = false }

-- the name of a number
abbrev pub name_at : Context → ℕ → Entry
name_at d s = get_or d.names s no_name
