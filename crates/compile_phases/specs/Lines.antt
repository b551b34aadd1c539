-- The line of the report on a source that is refused (this project's report).
use Rattle.std.specs.Prelude.{ℕ, Option, List}
use Rattle.compile_phases.specs.Prelude.{Entry, NameFault, SectionFault}
use Rattle.std.specs.Option.{option_map}
use Rattle.module_reader.specs.declared.fault.ReadFault.{ReadFault}
use Rattle.reports.specs.SourceLines.{read_telling, name_telling, section_telling}
use Rattle.reports.specs.RefusalTold.{told_line}

-- on a text that is no module
abbrev pub read_text : ReadFault → Option (List ℕ)
read_text f = option_map told_line (read_telling f)

-- on its names
abbrev pub name_text : NameFault → Option (List ℕ)
name_text f = option_map told_line (name_telling f)

-- on its sections, over its names
abbrev pub section_text : List Entry → SectionFault → Option (List ℕ)
section_text es f = option_map told_line (section_telling es f)
