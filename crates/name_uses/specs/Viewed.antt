-- The parts of the code as those of the language.
use Rattle.std.specs.Prelude.{List, map, option_map}
use Rattle.std.specs.Borrow.{Bor}
use Rattle.abel_tree.specs.declared.words.Word.{Word}
use Rattle.abel_tree.specs.Tree.{SectionTree}
use Rattle.abel_tree.specs.View.{view, view_section}
use Rattle.name_uses.specs.declared.name_use.NameUse.{NameUse}
use Rattle.name_uses.specs.declared.part.Part.{Part}
use Rattle.name_uses.specs.declared.part.Role.{Role}
use Rattle.name_uses.specs.declared.part.Role.TheVariants as role
use Rattle.name_uses.specs.declared.source.SectionParts.{SectionParts}
use Rattle.name_uses.specs.NamesUsed.{UsedName}
use Rattle.name_uses.specs.Parts.{PartRole, Target, Value, Read, Outputs, Registers, Entry, PartTree, parts_in_section}

-- a word that is held elsewhere
abbrev pub word_at : Bor Word → Word
word_at w = w.now

abbrev pub view_use : NameUse → UsedName
view_use u = record { first = u.first.now; last = option_map word_at u.last; extension = u.extension }

abbrev pub view_role : Role → PartRole
view_role (role.Target sign) = Target sign
view_role (role.Value target) = Value (view target.now)
view_role role.Read = Read
view_role (role.Outputs clocked) = Outputs clocked
view_role role.Registers = Registers
view_role role.Entry = Entry

abbrev pub view_part : Part → PartTree
view_part p = record { role = view_role p.role; tree = view p.expr.now; uses = map view_use p.uses.items }

-- a section with its parts
pub record PartedSection : Type 0 where
  pub section : SectionTree
  pub parts : List PartTree

abbrev pub view_section_parts : SectionParts → PartedSection
view_section_parts s = record { section = view_section s.section.now; parts = map view_part s.parts.items }

abbrev pub with_parts : SectionTree → PartedSection
with_parts x = record { section = x; parts = parts_in_section x }
